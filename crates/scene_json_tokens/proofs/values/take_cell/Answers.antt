use Rattle.scene_json_tokens.proofs.CellsTaken.{cell_taken}
use Rattle.scene_json_tokens.proofs.values.take_cell.Goals as goal

pub returns : goal.returns
returns c =
    cell_taken c.args.shape c.args.reader.now c.take_list.new.reader c.take_value.new.reader c.take_count.new.reader c.take_count-2.new.reader
    c.take_list_end.new.reader c.in_ok-value.value c.in_ok-added.added c.in_ok-changed.changed c.in_ok-take_list.ensures c.in_ok-value.ensures
    c.in_ok-added.ensures c.in_ok-changed.ensures c.in_ok-take_list_end.ensures
