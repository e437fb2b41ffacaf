use Rattle.scene_json_forms.proofs.ListsWritten.{accepted, five}
use Rattle.scene_file.proofs.Objects.{resource_is}
use Rattle.scene_file.proofs.write_world.write_resource.Goals as goal

pub returns : goal.returns
returns c = accepted c.push_str-3.result _ _ _ c.push_str-3.ensures.bytes (λ last. five _ _ _ _ _ _ _ _ _ _ _ _
    (resource_is c.args.name.now c.args.cell.now)
    c.in_ok-push_str.ensures.bytes c.in_ok-write_resource_cell.ensures c.in_ok-push_str-2.ensures.bytes c.in_ok-write_json_text.ensures last)
