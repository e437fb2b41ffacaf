use Rattle.std.proofs.Common.{ap, ◌∙◌, ◌++◌, ◌≡◌, string_bytes}
use Rattle.serde_json.specs.Written.{compact_text}
use Rattle.scene_links.specs.Forest.{children_of, parents}
use Rattle.scene_json_forms.specs.Text.{list_text}
use Rattle.scene_file.specs.Text.{children_text}
use Rattle.scene_json_forms.proofs.ListsWritten.{so}
use Rattle.scene_file.proofs.Found.{forest_found}
use Rattle.scene_file.proofs.write_world.write_links.Goals as goal

pub returns : goal.returns
returns c =
    let forest = c.args.links.now.forest in
    let named : c.as_slice.result.now ≡ parents forest = c.as_slice.ensures.value ∙ c.in_ok-parents.ensures.value in
    so c.write_parents.result c.write_parents.ensures (λ h.
    h ∙ ap (λ ps. string_bytes c.args.out.now ++ compact_text (list_text (λ p. children_text (p, children_of forest p)) ps)) named
    ∙ ap (λ t. string_bytes c.args.out.now ++ compact_text t) (forest_found forest))
