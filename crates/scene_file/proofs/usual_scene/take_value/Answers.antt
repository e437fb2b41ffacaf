use Rattle.std.proofs.Common.{◌≡◌, [], sym, ap, ◌∙◌, rules}
use Rattle.scene_json.specs.View.{whole}
use Rattle.scene_json_forms.specs.declared.path.Path.{Root, the_lemmas}
use Rattle.scene_json_forms.specs.Paths.{path_bytes}
use Rattle.scene_json_forms.specs.Reading.{under}
use Rattle.scene_json_forms.proofs.PathSteps.{path-Key}
use Rattle.scene_file.proofs.usual_scene.take_value.Goals as goal

root_path : path_bytes Root ≡ []
root_path = search (rules, the_lemmas)

pub returns : goal.returns
returns g c =
    let d = whole c.in-Ok.document in
    let key = c.args.key.now in
    let word = g.F.Form.word c.args.form.now in (
      d,
      c.in-Ok.ensures.found,
      ap (λ p. word p d) (sym (path-Key _ _ ∙ ap (λ p. under p key) root_path)) ∙ ap (word _) (sym c.root.ensures) ∙ c.in-Ok-read.ensures,
    )
