-- Several undos, or several redos, by one call.
use Rattle.std.specs.Prelude.{ℕ, Option, Some, None, Ok, Err}
use Rattle.scene_kinds.specs.Answers.{Outcome}
use Rattle.scene_script.specs.declared.bad_line.BadLine.TheVariants.{FrameOpen}
use Rattle.scene_session.specs.declared.way.Way.{Way}
use Rattle.scene_session.specs.Owner.{OwnerState}
use Rattle.scene_session.specs.Turns.{answer_along, owner_by}
use Rattle.scene_interpreter.specs.Interpreter.{Interpreter, Setting, Playing, LineReply, played}
use Rattle.scene_interpreter.specs.OpenFrame.{Opened}
use Rattle.scene_interpreter.specs.Play.{PlayState, StateReply, bad_reply, first_state, query_reply, with_owner}
use Rattle.scene_interpreter.specs.Said.{Called, refused}

-- the reply where no frame is open: the answer of one of the calls, where all are done
abbrev pub turned_reply : PlayState → Way → Outcome (Unit {0}) OwnerState → StateReply
turned_reply s way (Ok p) = query_reply (with_owner s p.1) (Called (answer_along way))
turned_reply s way (Err r) = query_reply s (refused r)

-- the reply to so many frames along a way; where a frame is open they are out of place, as one is
abbrev pub turn_reply : PlayState → Way → ℕ → Option Opened → StateReply
turn_reply s way count None = turned_reply s way (owner_by way count s.owner)
turn_reply s way count (Some f) = bad_reply s FrameOpen

-- and of the interpreter, whose setup it ends
abbrev pub turn_said : Interpreter → Way → ℕ → LineReply
turn_said (Setting s) way count = played (turn_reply (first_state s) way count None)
turn_said (Playing s) way count = played (turn_reply s way count s.frame)
