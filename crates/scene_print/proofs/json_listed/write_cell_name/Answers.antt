use Rattle.scene_json_forms.proofs.ListsWritten.{accepted, five}
use Rattle.scene_print.proofs.JsonObjects.{cell_name_is}
use Rattle.scene_print.proofs.json_listed.write_cell_name.Goals as goal

pub returns : goal.returns
returns c = accepted c.push_str-3.result _ _ _ c.push_str-3.ensures.bytes (λ last. five _ _ _ _ _ _ _ _ _ _ _ _
    (cell_name_is c.args.schema.now c.args.cell)
    c.in_ok-push_str.ensures.bytes c.in_ok-write_entity.ensures c.in_ok-push_str-2.ensures.bytes c.in_ok-write_kind.ensures last)
