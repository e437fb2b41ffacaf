-- Interpreters that are the same in all but which calls there were.
use Rattle.std.proofs.Common.{◌≡◌, ℕ, List, [], ◌++◌, Bool, true, false, Option, Some, None, Result, Ok, if◌then◌else◌, refl, sym, ap, subst, ◌∙◌}
use Rattle.std.specs.Prelude.{Err, is_some}
use Rattle.scene_kinds.specs.declared.fault.Fault.{Fault}
use Rattle.scene_kinds.specs.declared.shape.Shape.{Shape}
use Rattle.scene_kinds.specs.Answers.{Outcome}
use Rattle.scene_print.specs.Shown.{show_text}
use Rattle.scene_pass.specs.Pass.{changed_since, added_since}
use Rattle.scene_queue.specs.Frames.{lone_frame}
use Rattle.scene_schedule.specs.Schedule.{schedule_fault}
use Rattle.scene_requests.specs.declared.question.Question.{Question}
use Rattle.scene_script.specs.declared.script_line.Line.{Line}
use Rattle.scene_script.specs.declared.script_line.Line.TheVariants.{Empty, Kind, Slots, Load, Calls, Depth, Do, Begin, Queue, Commit, Undo, Redo, Show, Get, Mark, Changed, Added, Phase, System, Clear, Advance, As, History, Dump, DumpAll}
use Rattle.scene_script.specs.declared.bad_line.BadLine.{BadLine}
use Rattle.scene_script.specs.Script.{line_in}
use Rattle.scene_session.specs.declared.way.Way.{Way}
use Rattle.scene_session.specs.Calls.{Asked, Submit, Advance as AdvanceCall, Undo as UndoCall, Redo as RedoCall}
use Rattle.scene_session.specs.FurtherKind.{declare_owner}
use Rattle.scene_session.specs.Owner.{OwnerState, machine_at, performed, whole_at}
use Rattle.scene_session.specs.Resumed.{OwnersAlike}
use Rattle.scene_session.specs.Turns.{answer_along, owner_by}
use Rattle.scene_session.specs.Whole.{Whole}
use Rattle.scene_session.proofs.Alike.{OutcomesAlike, declared_alike, owners_back, owners_same, performed_alike, turns_alike}
use Rattle.scene_undo.specs.Cursor.{cursor_of, since}
use Rattle.scene_interpreter.specs.Apart.{RepliesApart, SameApart, StatesApart}
use Rattle.scene_interpreter.specs.Changes.{changes_said, changes_setup, changes_within, frame_is_open, said_changes}
use Rattle.scene_interpreter.specs.FurtherKind.{declare_in, play_declared, playing_declared}
use Rattle.scene_interpreter.specs.Interpreter.{Interpreter, LineReply, Playing, Setting, interpreter_kinds, interpreter_reply, interpreter_said, owner_of, played, reply_of, without_frame}
use Rattle.scene_interpreter.specs.declared.json_question.StateJson.{StateJson}
use Rattle.scene_interpreter.specs.declared.json_question.StateJson.TheVariants.{Ask}
use Rattle.scene_interpreter.specs.JsonAnswer.{json_line, json_text}
use Rattle.scene_interpreter.specs.JsonLine.{AddsAnswer, AddsJson, asked_by, question_of}
use Rattle.scene_interpreter.specs.JsonQuestion.{asked_json}
use Rattle.scene_interpreter.specs.OpenFrame.{Opened, new_frame, queues_of, with_command, with_queue}
use Rattle.scene_interpreter.specs.Phases.{with_phase, with_system}
use Rattle.scene_interpreter.specs.Play.{PlayState, SetupState, StateReply, advance_by, call_reply, dump_said, dumpall_said, first_owner, frame_reply, get_said, lone_reply, no_filter, queued_reply, reply_within, said_reply, schedule_of, setup_kinds, since_said, with_frame, with_owner, with_phases}
use Rattle.scene_interpreter.specs.Said.{Said, Called, Counted, Text, Changed as ChangedCells, Added as AddedCells, Marked, bad_in, refused, said_text}
use Rattle.scene_interpreter.specs.Turns.{turn_reply, turn_said, turned_reply}

-- replies behind the setup that are the same, history apart
abbrev StateRepliesApart : StateReply → StateReply → Type 0
StateRepliesApart r u = (r.said ≡ u.said) × StatesApart r.state u.state

-- ---- states that have all in common but their owners

module _ (k l : OwnerState) (alike : OwnersAlike k l) where
  over : (x : PlayState) → StatesApart (with_owner x k) (with_owner x l)
  over x = record { owners = alike; besides = refl }

  called : (x : PlayState) (a : Asked) → StateRepliesApart (call_reply (with_owner x k) a) (call_reply (with_owner x l) a)
  called x a =
      let both = performed_alike k l a alike in
      (ap Called both.1, record { owners = both.0; besides = refl })

  -- a schedule with this fault, if it has one
  advanced : (x : PlayState) (fault : Option Fault) → StateRepliesApart (advance_by (with_owner x k) fault) (advance_by (with_owner x l) fault)
  advanced x None = called x (AdvanceCall (schedule_of x))
  advanced x (Some fault) = (refl, over x)

  lone : (x : PlayState) (line : Line) → StateRepliesApart (lone_reply (with_owner x k) line) (lone_reply (with_owner x l) line)
  lone x Empty = (refl, over x)
  lone x (Kind name shape) = (refl, over x)
  lone x (Slots n) = (refl, over x)
  lone x (Load text) = (refl, over x)
  lone x (Calls n) = (refl, over x)
  lone x (Depth n) = (refl, over x)
  lone x (Do command) = called x (Submit (lone_frame command))
  lone x Begin = (refl, over (with_frame x (Some new_frame)))
  lone x Queue = (refl, over x)
  lone x Commit = (refl, over x)
  lone x Undo = called x UndoCall
  lone x Redo = called x RedoCall
  lone x Show = (ap (λ (w : Whole). Text (show_text w.machine.now)) alike.whole, over x)
  lone x (Get e) = (ap (λ (w : Whole). get_said w.machine.now e) alike.whole, over x)
  lone x Mark = (
    ap (λ (w : Whole). Marked (cursor_of w.machine)) alike.whole,
    record { owners = alike; besides = ap (λ (w : Whole). record x { owner = l; cursor = cursor_of w.machine }) alike.whole },
  )
  lone x Changed =
      (ap (λ (w : Whole). since_said ChangedCells (changed_since w.machine.now no_filter) (since x.cursor w.machine)) alike.whole, over x)
  lone x Added =
      (ap (λ (w : Whole). since_said AddedCells (added_since w.machine.now no_filter) (since x.cursor w.machine)) alike.whole, over x)
  lone x Phase = (refl, over (with_phases x (with_phase x.phases)))
  lone x (System rule) = (refl, over (with_phases x (with_system x.phases rule)))
  lone x Clear = (refl, over (with_phases x []))
  lone x Advance = advanced x (schedule_fault x.schema x.phases)
  lone x (As n) = (
    refl,
    record {
      owners = record { whole = alike.whole; limit = alike.limit; count = alike.count; session = refl };
      besides = refl;
    },
  )
  lone x History = (ap Counted alike.count, over x)
  lone x Dump = (ap (λ (w : Whole). dump_said w.machine.now) alike.whole, over x)
  lone x DumpAll = (ap dumpall_said alike.whole, over x)

  queued : (x : PlayState) (f : Opened) (o : Outcome (Unit {0}) Opened)
      → StateRepliesApart (queued_reply (with_owner x k) f o) (queued_reply (with_owner x l) f o)
  queued x f (Ok p) = (refl, over (with_frame x (Some p.1)))
  queued x f (Err r) = (refl, over (with_frame x (Some f)))

  within_frame : (x : PlayState) (f : Opened) (line : Line) → StateRepliesApart (frame_reply (with_owner x k) f line) (frame_reply (with_owner x l) f line)
  within_frame x f (Do command) = queued x f (with_command f command)
  within_frame x f Queue = (refl, over (with_frame x (Some (with_queue f))))
  within_frame x f Commit = called (with_frame x None) (Submit (queues_of f))
  within_frame x f line = (refl, over (with_frame x (Some f)))

  within : (x : PlayState) (line : Line) (frame : Option Opened) → StateRepliesApart (reply_within (with_owner x k) line frame) (reply_within (with_owner x l) line frame)
  within x line None = lone x line
  within x line (Some f) = within_frame x f line

  said : (x : PlayState) (says : Result Line BadLine) → StateRepliesApart (said_reply (with_owner x k) says) (said_reply (with_owner x l) says)
  said x (Ok line) = within x line x.frame
  said x (Err reason) = (refl, over x)

  -- several undos, or several redos
  turned : (x : PlayState) (way : Way) (o u : Outcome (Unit {0}) OwnerState) → OutcomesAlike o u
      → StateRepliesApart (turned_reply (with_owner x k) way o) (turned_reply (with_owner x l) way u)
  turned x way (Ok a) (Ok b) same = (refl, record { owners = same.1; besides = refl })
  turned x way (Ok a) (Err r) same = absurd same
  turned x way (Err r) (Ok b) same = absurd same
  turned x way (Err q) (Err r) same = (ap refused same, over x)

  turns : (x : PlayState) (way : Way) (count : ℕ) (frame : Option Opened)
      → StateRepliesApart (turn_reply (with_owner x k) way count frame) (turn_reply (with_owner x l) way count frame)
  turns x way count None = turned x way (owner_by way count k) (owner_by way count l) (turns_alike way count k l alike)
  turns x way count (Some f) = (refl, over x)

-- ---- states

kinds_same : (s t : PlayState) → StatesApart s t → s.schema ≡ t.schema
kinds_same s t same = ap (λ (x : PlayState). x.schema) same.besides

states_answer : (s t : PlayState) (says : Result Line BadLine) → StatesApart s t → StateRepliesApart (said_reply s says) (said_reply t says)
states_answer s t says same =
    subst (λ (x : PlayState). StateRepliesApart (said_reply s says) (said_reply x says)) same.besides (said s.owner t.owner same.owners s says)

states_turn : (s t : PlayState) (way : Way) (count : ℕ) → StatesApart s t → StateRepliesApart (turn_reply s way count s.frame) (turn_reply t way count t.frame)
states_turn s t way count same =
    subst (λ (x : PlayState). StateRepliesApart (turn_reply s way count s.frame) (turn_reply x way count x.frame)) same.besides
    (turns s.owner t.owner same.owners s way count s.frame)

-- ---- interpreters

pub apart_refl : (p : Interpreter) → SameApart p p
apart_refl (Setting s) = refl
apart_refl (Playing s) = record { owners = owners_same s.owner; besides = refl }

pub apart_sym : (p q : Interpreter) → SameApart p q → SameApart q p
apart_sym (Setting s) (Setting t) same = sym same
apart_sym (Setting s) (Playing t) same = absurd same
apart_sym (Playing s) (Setting t) same = absurd same
apart_sym (Playing s) (Playing t) same = record {
  owners = owners_back s.owner t.owner same.owners;
  besides = ap (λ (x : PlayState). with_owner x s.owner) (sym same.besides);
}

replies_refl : (r : LineReply) → RepliesApart r r
replies_refl r = record { said = refl; text = refl; bad = refl; interpreter = apart_refl r.interpreter }

replies : (r u : StateReply) → StateRepliesApart r u → RepliesApart (played r) (played u)
replies r u same = record {
  said = same.0;
  text = λ i. said_text (kinds_same r.state u.state same.1 i) (same.0 i);
  bad = ap bad_in same.0;
  interpreter = same.1;
}

pub kinds_apart : (p q : Interpreter) → SameApart p q → interpreter_kinds p ≡ interpreter_kinds q
kinds_apart (Setting s) (Setting t) same = ap setup_kinds same
kinds_apart (Setting s) (Playing t) same = absurd same
kinds_apart (Playing s) (Setting t) same = absurd same
kinds_apart (Playing s) (Playing t) same = kinds_same s t same

pub frames_apart : (p q : Interpreter) → SameApart p q → frame_is_open p ≡ frame_is_open q
frames_apart (Setting s) (Setting t) same = refl
frames_apart (Setting s) (Playing t) same = absurd same
frames_apart (Playing s) (Setting t) same = absurd same
frames_apart (Playing s) (Playing t) same = ap (λ (x : PlayState). is_some x.frame) same.besides

pub changes_apart : (p q : Interpreter) (says : Result Line BadLine) → SameApart p q → said_changes p says ≡ said_changes q says
changes_apart (Setting s) (Setting t) says same = ap (λ (x : SetupState). changes_said (changes_setup x.base) says) same
changes_apart (Setting s) (Playing t) says same = absurd same
changes_apart (Playing s) (Setting t) says same = absurd same
changes_apart (Playing s) (Playing t) says same = ap (λ (x : PlayState). changes_said (changes_within x.frame) says) same.besides

pub said_apart : (p q : Interpreter) (says : Result Line BadLine) → SameApart p q → RepliesApart (interpreter_said p says) (interpreter_said q says)
said_apart (Setting s) (Setting t) says same =
    subst (λ (x : SetupState). RepliesApart (interpreter_said (Setting s) says) (interpreter_said (Setting x) says)) same (replies_refl (interpreter_said (Setting s) says))
said_apart (Setting s) (Playing t) says same = absurd same
said_apart (Playing s) (Setting t) says same = absurd same
said_apart (Playing s) (Playing t) says same = replies (said_reply s says) (said_reply t says) (states_answer s t says same)

pub answers_apart : (p q : Interpreter) (bytes : List ℕ) → SameApart p q → RepliesApart (interpreter_reply p bytes) (interpreter_reply q bytes)
answers_apart p q bytes same =
    subst (λ kinds. RepliesApart (interpreter_reply p bytes) (interpreter_said q (line_in kinds bytes))) (kinds_apart p q same)
    (said_apart p q (line_in (interpreter_kinds p) bytes) same)

-- ---- what requests ask for besides

-- a reply that says only this of them
pub reply_apart : (says : Said) (p q : Interpreter) → SameApart p q → RepliesApart (reply_of (interpreter_kinds p) says p) (reply_of (interpreter_kinds q) says q)
reply_apart says p q same = record {
  said = refl;
  text = ap (λ kinds. said_text kinds says) (kinds_apart p q same);
  bad = refl;
  interpreter = same;
}

pub turn_apart : (p q : Interpreter) (way : Way) (count : ℕ) → SameApart p q → RepliesApart (turn_said p way count) (turn_said q way count)
turn_apart (Setting s) (Setting t) way count same =
    subst (λ (x : SetupState). RepliesApart (turn_said (Setting s) way count) (turn_said (Setting x) way count)) same (replies_refl (turn_said (Setting s) way count))
turn_apart (Setting s) (Playing t) way count same = absurd same
turn_apart (Playing s) (Setting t) way count same = absurd same
turn_apart (Playing s) (Playing t) way count same =
    replies (turn_reply s way count s.frame) (turn_reply t way count t.frame) (states_turn s t way count same)

pub without_frame_apart : (p q : Interpreter) → SameApart p q → SameApart (without_frame p) (without_frame q)
without_frame_apart (Setting s) (Setting t) same = same
without_frame_apart (Setting s) (Playing t) same = absurd same
without_frame_apart (Playing s) (Setting t) same = absurd same
without_frame_apart (Playing s) (Playing t) same = record { owners = same.owners; besides = ap (λ (x : PlayState). with_frame x None) same.besides }

-- both refused so, or both accepted, and the interpreters behind it are the same, history apart
abbrev pub OutcomesApart : {A : Type 0} → Outcome A Interpreter → Outcome A Interpreter → Type 0
OutcomesApart (Ok p) (Ok q) = (p.0 ≡ q.0) × SameApart p.1 q.1
OutcomesApart (Err q) (Err r) = q ≡ r
OutcomesApart o u = ⊥

outcomes_refl : (o : Outcome ℕ Interpreter) → OutcomesApart o o
outcomes_refl (Ok p) = (refl, apart_refl p.1)
outcomes_refl (Err r) = refl

declared : (x : PlayState) (k l : OwnerState) (o u : Outcome ℕ OwnerState) → OutcomesAlike o u
    → OutcomesApart (playing_declared (play_declared (with_owner x k) o)) (playing_declared (play_declared (with_owner x l) u))
declared x k l (Ok a) (Ok b) same = (
  same.0,
  record { owners = same.1; besides = ap (λ (w : Whole). record x { owner = b.1; schema = w.machine.now.schema }) same.1.whole },
)
declared x k l (Ok a) (Err r) same = absurd same
declared x k l (Err r) (Ok b) same = absurd same
declared x k l (Err q) (Err r) same = same

pub declare_apart : (p q : Interpreter) (name : List ℕ) (shape : Shape) → SameApart p q → OutcomesApart (declare_in name shape p) (declare_in name shape q)
declare_apart (Setting s) (Setting t) name shape same =
    subst (λ (x : SetupState). OutcomesApart (declare_in name shape (Setting s)) (declare_in name shape (Setting x))) same (outcomes_refl (declare_in name shape (Setting s)))
declare_apart (Setting s) (Playing t) name shape same = absurd same
declare_apart (Playing s) (Setting t) name shape same = absurd same
declare_apart (Playing s) (Playing t) name shape same =
    subst (λ (x : PlayState). OutcomesApart (declare_in name shape (Playing s)) (declare_in name shape (Playing x))) same.besides
    (declared s s.owner t.owner (declare_owner name shape s.owner) (declare_owner name shape t.owner) (declared_alike name shape s.owner t.owner same.owners))

-- ---- answers as JSON

wholes_apart : (p q : Interpreter) → SameApart p q → whole_at (owner_of p) ≡ whole_at (owner_of q)
wholes_apart (Setting s) (Setting t) same = ap (λ (x : SetupState). whole_at (first_owner x)) same
wholes_apart (Setting s) (Playing t) same = absurd same
wholes_apart (Playing s) (Setting t) same = absurd same
wholes_apart (Playing s) (Playing t) same = same.owners.whole

-- that of a reply
pub reply_json_apart : (r u : LineReply) (words : List ℕ) → RepliesApart r u
    → json_text (interpreter_kinds r.interpreter) words r.said ≡ json_text (interpreter_kinds u.interpreter) words u.said
reply_json_apart r u words same = λ i. json_text (kinds_apart r.interpreter u.interpreter same.interpreter i) words (same.said i)

pub json_apart : (p q : Interpreter) (says : Result Line BadLine) (old new : List ℕ) → SameApart p q
    → AddsJson old new p (interpreter_said p says).interpreter says (asked_by p says)
    → AddsJson old new q (interpreter_said q says).interpreter says (asked_by q says)
json_apart p q says old new same adds =
    subst (λ b. AddsJson old new q (interpreter_said q says).interpreter says (if b then None else question_of says)) (frames_apart p q same)
    (by (asked_by p says) adds)
  where
    by : (o : Option StateJson) → AddsJson old new p (interpreter_said p says).interpreter says o
        → AddsJson old new q (interpreter_said q says).interpreter says o
    by (Some asked) is = is ∙ ap (λ (w : Whole). old ++ json_line (asked_json asked w)) (wholes_apart p q same)
    by None is =
        (is.0, is.1 ∙ ap (λ line. old ++ line) (reply_json_apart (interpreter_said p says) (interpreter_said q says) is.0 (said_apart p q says same)))

pub question_apart : (p q : Interpreter) (question : Question) (old new : List ℕ) → SameApart p q
    → AddsAnswer old new p question (frame_is_open p) → AddsAnswer old new q question (frame_is_open q)
question_apart p q question old new same adds = subst (λ b. AddsAnswer old new q question b) (frames_apart p q same) (by (frame_is_open p) adds)
  where
    by : (b : Bool) → AddsAnswer old new p question b → AddsAnswer old new q question b
    by true is = is
    by false is = is ∙ ap (λ (w : Whole). old ++ json_line (asked_json (Ask question) w)) (wholes_apart p q same)
