use Rattle.std.proofs.Common.{subst, arith}
use Rattle.std.proofs.lemmas.List.{map-id}
use Rattle.scene_json_forms.specs.Reading.{list_of, rising_of}
use Rattle.scene_json_forms.specs.Walk.{u32_at}
use Rattle.scene_json_tokens.specs.Taken.{IsTaken}
use Rattle.scene_file.specs.SeenHead.{head_seen}
use Rattle.scene_file.specs.Walk.{children_at, parent_follows}
use Rattle.scene_file.proofs.SceneTaken.{head_taken, member_taken}
use Rattle.scene_file.proofs.usual_scene.take_head.Goals as goal

pub returns : goal.returns
returns c =
    let free = c.in_ok-free.free.items in
    let generations = c.in_ok-generations.generations.items in
    head_taken c.args.reader.now c.take_rising.new.reader c.take_list_of.new.reader c.take_list_of-2.new.reader c.take_member.new.reader
    c.take_member-2.new.reader
    (head_seen (record { children = c.in_ok-children.children; free = c.in_ok-free.free; generations = c.in_ok-generations.generations; schema = c.in_ok-schema.schema; limit = c.in_ok-limit.limit }))
    (member_taken (rising_of children_at parent_follows) 3 _ c.args.reader.now c.take_key.new.reader c.take_rising.new.reader _ (omega arith)
    c.in_ok-take_key.ensures c.in_ok-children.ensures)
    (member_taken (list_of u32_at) 1 _ c.take_rising.new.reader c.take_key-2.new.reader c.take_list_of.new.reader free (omega arith)
    c.in_ok-take_key-2.ensures
    (subst (IsTaken (list_of u32_at) 1 c.take_key-2.new.reader c.take_list_of.new.reader) (map-id free) c.in_ok-free.ensures))
    (member_taken (list_of u32_at) 1 _ c.take_list_of.new.reader c.take_key-3.new.reader c.take_list_of-2.new.reader generations (omega arith)
    c.in_ok-take_key-3.ensures
    (subst (IsTaken (list_of u32_at) 1 c.take_key-3.new.reader c.take_list_of-2.new.reader) (map-id generations) c.in_ok-generations.ensures))
    c.in_ok-schema.ensures c.in_ok-limit.ensures
