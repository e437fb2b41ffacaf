-- Several calls of one kind, all or none: several undos, or several redos.
use Rattle.std.specs.Prelude.{ℕ, Ok, Err}
use Rattle.scene_kinds.specs.Answers.{Outcome}
use Rattle.scene_undo.specs.Several.{several}
use Rattle.scene_session.specs.declared.way.Way.{Way}
use Rattle.scene_session.specs.declared.way.Way.TheVariants.{Back, On}
use Rattle.scene_session.specs.Calls.{Answer, Asked, Redo, Redone, Refused, Undo, Undone}
use Rattle.scene_session.specs.Owner.{MadeCall, OwnerState, performed}
use Rattle.scene_session.specs.Whole.{Whole, step}

-- the call that goes one frame along a way
abbrev pub call_along : Way → Asked
call_along Back = Undo
call_along On = Redo

-- and its answer where it is done
abbrev pub answer_along : Way → Answer
answer_along Back = Undone
answer_along On = Redone

-- such a call of a session, as one that was made
abbrev pub turned : ℕ → Way → MadeCall
turned session way = record { session = session; call = call_along way; answer = answer_along way }

-- what a call made, or the refusal that is its answer
abbrev pub unless_refused : {W : Type 0} → W → Answer → Outcome (Unit {0}) W
unless_refused w (Refused r) = Err r
unless_refused w answer = Ok (tt, w)

-- the owner with a call that was done; one that would be refused isn't entered
abbrev pub done : Asked → OwnerState → Outcome (Unit {0}) OwnerState
done a h = unless_refused (performed h a).0 (performed h a).1

-- so many calls of the session whose turn it is: the first refusal is that of them all
abbrev pub owner_by : Way → ℕ → OwnerState → Outcome (Unit {0}) OwnerState
owner_by way = several (done (call_along way))

-- the same of the machine with its records
abbrev pub done_whole : Asked → Whole → Outcome (Unit {0}) Whole
done_whole a w = unless_refused (step w a).0 (step w a).1

-- so many of them
abbrev pub whole_by : Way → ℕ → Whole → Outcome (Unit {0}) Whole
whole_by way = several (done_whole (call_along way))
