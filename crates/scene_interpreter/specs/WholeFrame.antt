-- What callers give as values: a frame of one queue, a spawn in an open frame, and another depth.
use Rattle.std.specs.Prelude.{◌≡◌, ℕ, List, [], ◌∷◌, Option, Some, None, Result, Ok, Err}
use Rattle.scene_kinds.specs.Answers.{Answers, Outcome}
use Rattle.scene_kinds.specs.declared.refusal.Refusal.{Refusal}
use Rattle.scene_kinds.specs.declared.value.Value.{Value}
use Rattle.scene_commands.specs.declared.target.Target.{Target}
use Rattle.scene_queue.specs.Queue.{QueueState}
use Rattle.scene_script.specs.declared.bad_line.BadLine.TheVariants.{FrameOpen}
use Rattle.scene_session.specs.Calls.{Submit}
use Rattle.scene_session.specs.Owner.{owner_at_depth}
use Rattle.scene_interpreter.specs.Interpreter.{Interpreter, Setting, Playing, LineReply, played}
use Rattle.scene_interpreter.specs.OpenFrame.{Opened, with_spawn}
use Rattle.scene_interpreter.specs.Play.{PlayState, StateReply, bad_reply, call_reply, first_state, with_frame, with_owner}

-- the reply to a frame of one queue: that of its commit, and where a frame is open it is out of place
abbrev pub queue_reply : PlayState → QueueState → Option Opened → StateReply
queue_reply s q None = call_reply s (Submit (q ∷ []))
queue_reply s q (Some f) = bad_reply s FrameOpen

-- and of the interpreter, whose setup it ends
abbrev pub queue_said : Interpreter → QueueState → LineReply
queue_said (Setting s) q = played (queue_reply (first_state s) q None)
queue_said (Playing s) q = played (queue_reply s q s.frame)

-- the interpreter of another depth, in the setup or behind it
abbrev pub at_depth : ℕ → Interpreter → Interpreter
at_depth depth (Setting s) = Setting (record s { depth = depth })
at_depth depth (Playing s) = Playing (with_owner s (owner_at_depth depth s.owner))

-- what a call on the open frame makes of the state; a refused one leaves it
abbrev pub and_state : {A : Type 0} → PlayState → Outcome A Opened → Outcome A PlayState
and_state s (Ok p) = Ok (p.0, with_frame s (Some p.1))
and_state s (Err r) = Err r

-- a spawn was queued in the frame that is open, or refused
pub record IsSpawnIn (old new : PlayState) (cells : List (ℕ × Value)) (result : Result Target Refusal) : Type 0 where
  pub frame : Opened
  pub is_open : old.frame ≡ Some frame
  pub queued : Answers result old new (and_state old (with_spawn frame cells))

-- and of an interpreter, which is behind its setup
pub record IsSpawnQueued (old new : Interpreter) (cells : List (ℕ × Value)) (result : Result Target Refusal) : Type 0 where
  pub before : PlayState
  pub after : PlayState
  pub old_is : old ≡ Playing before
  pub new_is : new ≡ Playing after
  pub queued : IsSpawnIn before after cells result
