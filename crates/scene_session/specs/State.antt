-- A state as contracts see it: what it began as, and its history. All else follows from these.
use Rattle.std.specs.Prelude.{◌≡◌, ◌≤◌, ◌++◌, ◌∷◌, [], ℕ, List, length, nat_lt, if◌then◌else◌}
use Rattle.scene_kinds.specs.declared.fault.Fault.TheVariants.{HistoryFull, NoMemory}
use Rattle.scene_kinds.specs.declared.refusal.Refusal.{Refusal}
use Rattle.scene_kinds.specs.Answers.{refusal_of}
use Rattle.scene_undo.specs.Editor.{EditorState}
use Rattle.scene_session.specs.declared.call.Call.{Call}
use Rattle.scene_session.specs.declared.call.Reply.{Reply}
use Rattle.scene_session.specs.declared.call.Stopped.{Stopped}
use Rattle.scene_session.specs.declared.entry.Entry.{Entry}
use Rattle.scene_session.specs.declared.state.Beginning.{Beginning}
use Rattle.scene_session.specs.Calls.{Asked, Answer, asked, told}
use Rattle.scene_session.specs.History.{replay, AreTrue}
use Rattle.scene_session.specs.Whole.{Whole, whole_of, next, step, IsTrue}

-- what the state began as, and the calls since, the oldest first
pub record StateView : Type 0 where
  pub opening : Beginning
  pub history : List Entry

-- the machine, with its records, to which a history leads
abbrev pub replayed : Beginning → List Entry → Whole
replayed o history = replay next (whole_of o.editor) history

-- each entry has the machine's answer after those before it, and there are no more entries than may be
abbrev pub IsLegal : Beginning → List Entry → Type 0
IsLegal o history = AreTrue next IsTrue (whole_of o.editor) history × (length history ≤ o.limit)

-- the machine's answer to a call after a history
abbrev pub answer_after : Beginning → List Entry → Asked → Answer
answer_after o history a = (step (replayed o history) a).1

-- why no call is entered in a history of so many entries, where none is: it is full, or else no memory was found
abbrev pub stopping_at : (limit count : ℕ) → Refusal
stopping_at limit count = if nat_lt count limit then refusal_of NoMemory else refusal_of (HistoryFull limit)

-- why none is entered in this history
abbrev pub stopping : Beginning → List Entry → Refusal
stopping o history = stopping_at o.limit (length history)

-- the history has one entry more: of this session, with this call and what this reply tells
abbrev pub HasEntered : List Entry → ℕ → Call → Reply → List Entry → Type 0
HasEntered before session c r after =
    (e : Entry) × (after ≡ before ++ e ∷ []) × (e.session ≡ session) × (asked e.call ≡ asked c) × (told e.reply ≡ told r)

-- the call is handed back, and this is why it wasn't entered in a history
abbrev pub IsStopped : Beginning → List Entry → Call → Stopped → Type 0
IsStopped o history c x = (x.call ≡ c) × (x.refusal ≡ stopping o history)

-- the editor is what the calls make of the opening, and they have the machine's answers
abbrev pub IsReplayOf : Beginning → List Entry → EditorState → Type 0
IsReplayOf o history editor = (whole_of editor ≡ replayed o history) × IsLegal o history
