use Rattle.std.proofs.Common.{◌≡◌, refl, subst, arith, codes, rules}
use Rattle.scene_json_forms.specs.Reading.{rising_of}
use Rattle.scene_json_forms.specs.Walk.{tick_at}
use Rattle.scene_validate.specs.Seen.{lists_seen, named_seen}
use Rattle.scene_file.specs.SeenHead.{head_seen}
use Rattle.scene_file.specs.Taken.{IsMember}
use Rattle.scene_file.specs.Walk.{table_at, table_follows}
use Rattle.scene_file.proofs.SceneTaken.{member_taken, tail_taken}
use Rattle.scene_file.proofs.usual_scene.take_tail.Goals as goal

pub returns : goal.returns
returns c =
    let version : c.in_ok-take_member.field-0 ≡ c.args.version = search rules in
    tail_taken (head_seen c.args.head) c.args.version c.args.reader.now c.take_value.new.reader c.take_member.new.reader c.take_rising.new.reader
    c.take_member-2.new.reader (named_seen c.in_ok-resources.resources.items) (lists_seen c.in_ok-tables.tables.items) c.in_ok-tick.tick _
    c.in_ok-resources.ensures
    (subst (IsMember tick_at (codes "scene") c.take_value.new.reader c.take_member.new.reader) version c.in_ok-take_member.ensures)
    (member_taken (rising_of (table_at c.args.head.schema) table_follows) 7 _ c.take_member.new.reader c.take_key.new.reader c.take_rising.new.reader _
    (omega arith) c.in_ok-take_key.ensures c.in_ok-tables.ensures) c.in_ok-tick.ensures refl
