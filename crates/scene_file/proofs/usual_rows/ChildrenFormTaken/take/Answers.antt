use Rattle.std.proofs.Common.{subst}
use Rattle.std.proofs.lemmas.List.{map-id}
use Rattle.scene_json_forms.specs.Reading.{list_of}
use Rattle.scene_json_forms.specs.Walk.{entity_at}
use Rattle.scene_json_tokens.specs.Taken.{IsTaken}
use Rattle.scene_file.proofs.RowsTaken.{children_taken}
use Rattle.scene_file.proofs.usual_rows.ChildrenFormTaken.take.Goals as goal

pub returns : goal.returns
returns c =
    children_taken c.args.reader.now c.take_object.new.reader c.take_key.new.reader c.take_list_of.new.reader c.take_key-2.new.reader c.take.new.reader
    c.take_object_end.new.reader c.in_ok-list.list.items c.in_ok-parent.parent c.in_ok-take_object.ensures c.in_ok-take_key.ensures
    (subst (IsTaken (list_of entity_at) 1 c.take_key.new.reader c.take_list_of.new.reader) (map-id c.in_ok-list.list.items) c.in_ok-list.ensures)
    c.in_ok-take_key-2.ensures c.in_ok-parent.ensures c.in_ok-take_object_end.ensures
