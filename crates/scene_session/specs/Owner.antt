-- What contracts see of an owner: the machine that its state began as, with its records, and the calls since, each with
-- its answer.
use Rattle.std.specs.Prelude.{◌++◌, ◌∷◌, [], ℕ, List, length, map, nat_lt, take, if◌then◌else◌}
use Rattle.scene_kinds.specs.declared.fault.Fault.TheVariants.{HistoryFull}
use Rattle.scene_kinds.specs.Answers.{refusal_of}
use Rattle.scene_model.specs.World.{World}
use Rattle.scene_machine.specs.Machine.{Machine}
use Rattle.scene_session.specs.declared.entry.Entry.{Entry}
use Rattle.scene_session.specs.Calls.{Answer, Asked, Refused, asked, told}
use Rattle.scene_session.specs.History.{replay}
use Rattle.scene_session.specs.State.{StateView}
use Rattle.scene_session.specs.Whole.{Whole, step, whole_of}

-- a call that was made: of which session, and its answer
pub record MadeCall : Type 0 where
  pub session : ℕ
  pub call : Asked
  pub answer : Answer

-- the machine at first with its records, how many calls there may be, the calls so far, the oldest first, and whose turn
-- it is
pub record OwnerState : Type 0 where
  pub opening : Whole
  pub limit : ℕ
  pub history : List MadeCall
  pub session : ℕ

-- the machine with its records after a call that was made
abbrev pub next : Whole → MadeCall → Whole
next w c = (step w c.call).0

-- the machine with its records now: what the calls make of the opening
abbrev pub whole_at : OwnerState → Whole
whole_at h = replay next h.opening h.history

-- the machine now
abbrev pub machine_at : OwnerState → Machine World
machine_at h = (whole_at h).machine

-- with no calls yet, it is the turn of session 0
abbrev pub opening_owner : Whole → ℕ → OwnerState
opening_owner w limit = record { opening = w; limit = limit; history = []; session = 0 }

-- the turn of another session
abbrev pub with_session : OwnerState → ℕ → OwnerState
with_session h session = record h { session = session }

-- a call more, of the session whose turn it is, with the machine's answer
abbrev pub entered : OwnerState → Asked → OwnerState
entered h a = record h { history = h.history ++ record { session = h.session; call = a; answer = (step (whole_at h) a).1 } ∷ [] }

-- a call and its answer; where there are as many calls as may be, it isn't entered
abbrev pub performed : OwnerState → Asked → OwnerState × Answer
performed h a = if nat_lt (length h.history) h.limit then (entered h a, (step (whole_at h) a).1) else (h, Refused (refusal_of (HistoryFull h.limit)))

-- the machine with its records, of another depth: the newest of its past are kept
abbrev pub whole_at_depth : ℕ → Whole → Whole
whole_at_depth depth w = record {
  machine = record w.machine { past = take depth w.machine.past; depth = depth };
  past = take depth w.past;
  future = w.future;
}

-- an owner of another depth: no call says it, so the calls begin anew
abbrev pub owner_at_depth : ℕ → OwnerState → OwnerState
owner_at_depth depth h = record h { opening = whole_at_depth depth (whole_at h); history = [] }

-- ---- the state

-- an entry of the state as a call that was made
abbrev pub made : Entry → MadeCall
made e = record { session = e.session; call = asked e.call; answer = told e.reply }

-- the owner over a lock with this state, where it is the turn of this session
abbrev pub owner_of : StateView → ℕ → OwnerState
owner_of s session =
    record { opening = whole_of s.opening.editor; limit = s.opening.limit; history = map made s.history; session = session }
