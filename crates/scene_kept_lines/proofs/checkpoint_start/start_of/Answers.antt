use Rattle.std.proofs.Common.{List, ℕ}
use Rattle.std.specs.Str.Lines.{lines}
use Rattle.scene_interpreter.specs.Interpreter.{interpreter_of}
use Rattle.scene_kept_lines.specs.Checkpoints.{Starts, kept_interpreter}
use Rattle.scene_kept_lines.specs.Scans.{IsFound}
use Rattle.scene_kept_lines.proofs.Scans.{popped_all, some_is}
use Rattle.scene_kept_lines.proofs.checkpoint_start.start_of.Goals as goal

pub returns-in-Some-2 : goal.returns-in-Some-2
returns-in-Some-2 g c =
    let found = popped_all (IsFound (lines c.args.text.now)) c.newest.checkpoints.items c.pop.new.self.items c.in-Some.checkpoint c.newest.invariant c.in-Some.ensures.items in
    some_is (λ s. (all : List (List ℕ)) → IsFound all c.in-Some.checkpoint → Starts (kept_interpreter c.args.calls) all (interpreter_of s.interpreter) s.skipped (lines s.rest.now))
    c.in_ok-start.field-0 c.in-Some-2.start c.in-Some-2.is c.in_ok-start.ensures (lines c.args.text.now) found.1

pub newest-preserved : goal.newest-preserved
newest-preserved g c =
    (popped_all (IsFound (lines c.args.text.now)) c.newest.checkpoints.items c.pop.new.self.items c.in-Some.checkpoint c.newest.invariant c.in-Some.ensures.items).0
