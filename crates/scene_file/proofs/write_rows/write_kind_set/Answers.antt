use Rattle.std.proofs.Common.{string_bytes}
use Rattle.scene_kinds.specs.KindSet.{kinds_left}
use Rattle.scene_json_forms.proofs.ListsWritten.{accepted}
use Rattle.scene_file.proofs.KindLists.{kind_written, kinds_closed}
use Rattle.scene_file.proofs.write_rows.write_kind_set.Goals as goal

pub numbers-preserved : goal.numbers-preserved
numbers-preserved c = kind_written c.numbers.later c.in-Some.kind _ (kinds_left c.next.new.self)
    (string_bytes c.numbers.out) (string_bytes c.write_comma.new.out) (string_bytes c.write.new.self) _
    c.in-Some.ensures.steps c.numbers.invariant c.in_ok-write_comma.ensures c.in_ok-write.ensures.bytes

pub returns : goal.returns
returns c = accepted c.push_str-2.result _ _ _ c.push_str-2.ensures.bytes (λ last.
    kinds_closed c.args.mask c.numbers.later _ (string_bytes c.args.out.now) (string_bytes c.push_str.new.self)
    (string_bytes c.numbers.out) (string_bytes c.push_str-2.new.self)
    c.in-None.ensures.steps.0 c.numbers.invariant c.in_ok-push_str.ensures.bytes last)
