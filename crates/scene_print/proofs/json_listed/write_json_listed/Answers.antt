use Rattle.scene_json_forms.proofs.ListsWritten.{accepted, five}
use Rattle.scene_print.proofs.JsonObjects.{listed_is}
use Rattle.scene_print.proofs.json_listed.write_json_listed.Goals as goal

pub returns : goal.returns
returns c = accepted c.push_str-3.result _ _ _ c.push_str-3.ensures.bytes (λ last. five _ _ _ _ _ _ _ _ _ _ _ _
    (listed_is c.args.word.now c.args.schema.now c.args.cells.now)
    c.in_ok-push_str.ensures.bytes c.in_ok-write_json_text.ensures c.in_ok-push_str-2.ensures.bytes c.in_ok-write_cell_names.ensures last)
