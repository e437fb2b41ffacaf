use Rattle.std.proofs.Common.{◌≡◌, ◌+◌, ◌++◌, replicate}
use Rattle.scene_session.specs.Turns.{turned}
use Rattle.scene_session.proofs.lone_owner.enter_turns.Given as goal

abbrev pub invariant-turns : goal.invariant-turns
invariant-turns l = (l.log.calls ≡ l.initial.log.calls ++ replicate l.counter (turned l.fn.session l.fn.way)) × (l.room + l.counter ≡ l.initial.room)
