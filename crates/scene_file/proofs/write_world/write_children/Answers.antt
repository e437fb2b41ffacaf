use Rattle.std.proofs.Common.{ap, sym, ◌∙◌}
use Rattle.serde_json.specs.Written.{compact_text}
use Rattle.scene_file.specs.Text.{children_text}
use Rattle.scene_json_forms.proofs.ListsWritten.{accepted, five}
use Rattle.scene_file.proofs.Objects.{children_is}
use Rattle.scene_file.proofs.write_world.write_children.Goals as goal

pub returns : goal.returns
returns c =
    let parent = c.args.parent in
    let list = c.children_of.result.now in
    accepted c.push_str-3.result _ _ _ c.push_str-3.ensures.bytes (λ last. five _ _ _ _ _ _ _ _ _ _ _ _
    (ap (λ l. compact_text (children_text (parent, l))) (sym c.children_of.ensures.value) ∙ children_is parent list)
    c.in_ok-push_str.ensures.bytes c.in_ok-write_entities.ensures c.in_ok-push_str-2.ensures.bytes c.in_ok-write_entity.ensures last)
