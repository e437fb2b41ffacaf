-- A line that asks the state for a text, as JSON.
use Rattle.std.proofs.Common.{◌≡◌, ℕ, List, true, false, ◌++◌, Option, Some, None, Result, Ok, Err, IfOk, IfErr, OnOk, refl, sym, ap, ◌∙◌, subst}
use Rattle.std.specs.Prelude.{is_some, if◌then◌else◌, option_map, reverse}
use Rattle.scene_file.specs.Saving.{save_editor_of, save_of}
use Rattle.scene_json_forms.specs.declared.fault.FileFault.{FileFault}
use Rattle.scene_session.specs.Owner.{whole_at}
use Rattle.scene_kinds.specs.Schema.{Kinds}
use Rattle.scene_kinds.specs.declared.cells.Row.{Row}
use Rattle.scene_model.specs.World.{row_of}
use Rattle.scene_script.specs.declared.bad_line.BadLine.{BadLine}
use Rattle.scene_script.specs.declared.bad_line.BadLine.TheVariants.{FrameOpen}
use Rattle.scene_script.specs.declared.script_line.Line.{Line}
use Rattle.scene_script.specs.declared.script_line.Line.TheVariants.{Show, Get, Dump, DumpAll}
use Rattle.scene_requests.specs.declared.question.Question.{Question}
use Rattle.scene_interpreter.specs.declared.halt.Halt.{Halt}
use Rattle.scene_interpreter.specs.declared.halt.Halt.TheVariants.{After}
use Rattle.scene_interpreter.specs.declared.json_question.StateJson.{StateJson}
use Rattle.scene_interpreter.specs.declared.json_question.StateJson.TheVariants.{Show as Shows, Ask as Asks}
use Rattle.scene_interpreter.specs.Changes.{frame_is_open}
use Rattle.scene_interpreter.specs.JsonAnswer.{bad_json, json_line}
use Rattle.scene_interpreter.specs.JsonLine.{AddsAnswer, AddsJson, IsAsked, IsSaidAsJson, asked_by, question_of}
use Rattle.scene_interpreter.specs.JsonQuestion.{asked_json}
use Rattle.scene_interpreter.specs.OpenFrame.{Opened}
use Rattle.scene_interpreter.specs.Play.{PlayState, SetupState, first_state, lone_reply, now, reply_within, row_said, said_reply, saved_said, setup_said, with_frame}
use Rattle.scene_interpreter.specs.Interpreter.{Interpreter, Setting, Playing, begun, halted, owner_of, interpreter_said, set_or_begun}
use Rattle.scene_interpreter.specs.Said.{bad_in}

-- what a world is asked for is no bad line
row_good : (kinds : Kinds) (o : Option Row) → bad_in (row_said kinds o) ≡ None
row_good kinds None = refl
row_good kinds (Some row) = refl

saved_good : (saved : Result (List ℕ) FileFault) → bad_in (saved_said saved) ≡ None
saved_good (Ok text) = refl
saved_good (Err fault) = refl

-- where no frame is open, a line that asks is no bad line, and leaves the state
abbrev Leaves : PlayState → Result Line BadLine → Type 0
Leaves s said = (bad_in (said_reply s said).said ≡ None) × ((said_reply s said).state ≡ s)

-- so it does by its reply outside a frame
asking_alone : (s : PlayState) (line : Line) → s.frame ≡ None → bad_in (lone_reply s line).said ≡ None → (lone_reply s line).state ≡ s
    → Leaves s (Ok line)
asking_alone s line none good same =
    (ap (λ f. bad_in (reply_within s line f).said) none ∙ good, ap (λ f. (reply_within s line f).state) none ∙ same)

asking : (s : PlayState) (said : Result Line BadLine) (q : StateJson) → question_of said ≡ Some q → s.frame ≡ None → Leaves s said
asking s (Ok Show) q is none = asking_alone s Show none refl refl
asking s (Ok (Get e)) q is none =
    asking_alone s (Get e) none (row_good (now s).schema (option_map (λ p. p.1) (row_of (now s) e))) refl
asking s (Ok Dump) q is none = asking_alone s Dump none (saved_good (save_of (now s))) refl
asking s (Ok DumpAll) q is none =
    let w = whole_at s.owner in
    asking_alone s DumpAll none (saved_good (save_editor_of w.machine.now (reverse w.past) w.future)) refl
asking s said q is none = absurd (cc is)

-- it ends the setup
ending : (s : SetupState) (said : Result Line BadLine) (q : StateJson) → question_of said ≡ Some q → setup_said s said ≡ None
ending s (Ok Show) q is = refl
ending s (Ok (Get e)) q is = refl
ending s (Ok Dump) q is = refl
ending s (Ok DumpAll) q is = refl
ending s said q is = absurd (cc is)

-- the reply to a line that asks: it isn't bad, and the interpreter is behind its setup
asked_reply : (z : Interpreter) (said : Result Line BadLine) (q : StateJson) → asked_by z said ≡ Some q
    → ((interpreter_said z said).bad ≡ None) × ((interpreter_said z said).interpreter ≡ begun z)
asked_reply (Setting s) said q is =
    let ends = ending s said q is in
    let leaves = asking (first_state s) said q is refl in
    (ap (λ o. (set_or_begun s said o).bad) ends ∙ leaves.0, ap (λ o. (set_or_begun s said o).interpreter) ends ∙ ap Playing leaves.1)
asked_reply (Playing s) said q is = by_frame s.frame refl is
  where
    by_frame : (f : Option Opened) → s.frame ≡ f → (if is_some f then None else question_of said) ≡ Some q
        → ((interpreter_said (Playing s) said).bad ≡ None) × ((interpreter_said (Playing s) said).interpreter ≡ Playing s)
    by_frame None none asks = let leaves = asking s said q asks none in (leaves.0, ap Playing leaves.1)
    by_frame (Some f) some asks = absurd (cc asks)

-- what was asked is the answer to the line
pub asked_answer : (z after : Interpreter) (said : Result Line BadLine) (old new : List ℕ) (q : StateJson) (r : Result (Option BadLine) Halt) → asked_by z said ≡ Some q
    → IfOk r (λ bad. bad ≡ None) → IfOk r (λ _. after ≡ begun z) → OnOk r (new ≡ old ++ json_line (asked_json q (whole_at (owner_of z))))
    → IfOk r (λ bad. IsSaidAsJson old new z after said bad)
asked_answer z after said old new q (Ok bad) is none behind text =
    let reply = asked_reply z said q is in
    (none ∙ sym reply.0, behind ∙ sym reply.1, subst (AddsJson old new z after said) (sym is) text)
asked_answer z after said old new q (Err h) is none behind text = tt

pub asked_halted : (z after : Interpreter) (said : Result Line BadLine) (q : StateJson) (r : Result (Option BadLine) Halt) → asked_by z said ≡ Some q
    → IfErr r (λ h. after ≡ halted h z (begun z)) → IfErr r (λ h. after ≡ halted h z (interpreter_said z said).interpreter)
asked_halted z after said q (Ok bad) is h = tt
asked_halted z after said q (Err x) is h = h ∙ ap (halted x z) (sym (asked_reply z said q is).1)

-- and so is the answer of any other line
pub played_answer : (z after : Interpreter) (said : Result Line BadLine) (old new : List ℕ) (r : Result (Option BadLine) Halt) → asked_by z said ≡ None
    → IfOk r (λ bad. bad ≡ (interpreter_said z said).bad) → OnOk r (after ≡ (interpreter_said z said).interpreter) → OnOk r (AddsJson old new z after said None)
    → IfOk r (λ bad. IsSaidAsJson old new z after said bad)
played_answer z after said old new (Ok bad) is why next text = (why, next, subst (AddsJson old new z after said) (sym is) text)
played_answer z after said old new (Err h) is why next text = tt

-- ---- a question that no line has

-- `show` where a frame is open: it is bad, and leaves the interpreter
open_reply : (z : Interpreter) → frame_is_open z ≡ true
    → ((interpreter_said z (Ok Show)).bad ≡ Some FrameOpen) × ((interpreter_said z (Ok Show)).interpreter ≡ z)
open_reply (Setting s) is = absurd (cc is)
open_reply (Playing s) is = by_frame s.frame refl is
  where
    by_frame : (f : Option Opened) → s.frame ≡ f → is_some f ≡ true
        → ((interpreter_said (Playing s) (Ok Show)).bad ≡ Some FrameOpen) × ((interpreter_said (Playing s) (Ok Show)).interpreter ≡ Playing s)
    by_frame None none so = absurd (cc so)
    by_frame (Some f) some so = (
      ap (λ o. bad_in (reply_within s Show o).said) some,
      ap (λ o. Playing (reply_within s Show o).state) some ∙ ap (λ o. Playing (with_frame s o)) (sym some),
    )

-- and where none is
shut_reply : (z : Interpreter) → frame_is_open z ≡ false
    → ((interpreter_said z (Ok Show)).bad ≡ None) × ((interpreter_said z (Ok Show)).interpreter ≡ begun z)
shut_reply z is = asked_reply z (Ok Show) Shows (ap (λ b. if b then None else Some Shows) is)

-- a question that is bad, since a frame is open
pub question_refused : (z : Interpreter) (question : Question) (old new : List ℕ) (r : Result (Option BadLine) Halt) → frame_is_open z ≡ true
    → IfOk r (λ bad. bad ≡ Some FrameOpen) → OnOk r ((words : List ℕ) × (new ≡ old ++ json_line (bad_json words)))
    → IfOk r (λ bad. IsAsked old new z z question bad)
question_refused z question old new (Ok bad) is why text =
    let reply = open_reply z is in
    (why ∙ sym reply.0, sym reply.1, subst (AddsAnswer old new z question) (sym is) text)
question_refused z question old new (Err h) is why text = tt

pub question_halted : (z : Interpreter) (r : Result (Option BadLine) Halt) → frame_is_open z ≡ true → IfErr r (λ h. h ≡ After)
    → IfErr r (λ h. z ≡ halted h z (interpreter_said z (Ok Show)).interpreter)
question_halted z (Ok bad) is h = tt
question_halted z (Err x) is h =
    sym (open_reply z is).1 ∙ ap (λ (y : Halt). halted y z (interpreter_said z (Ok Show)).interpreter) (sym h)

-- and one that is answered
pub question_answered : (z after : Interpreter) (question : Question) (old new : List ℕ) (r : Result (Option BadLine) Halt) → frame_is_open z ≡ false
    → IfOk r (λ bad. bad ≡ None) → IfOk r (λ _. after ≡ begun z)
    → OnOk r (new ≡ old ++ json_line (asked_json (Asks question) (whole_at (owner_of z)))) → IfOk r (λ bad. IsAsked old new z after question bad)
question_answered z after question old new (Ok bad) is none behind text =
    let reply = shut_reply z is in
    (none ∙ sym reply.0, behind ∙ sym reply.1, subst (AddsAnswer old new z question) (sym is) text)
question_answered z after question old new (Err h) is none behind text = tt

pub question_stopped : (z after : Interpreter) (r : Result (Option BadLine) Halt) → frame_is_open z ≡ false
    → IfErr r (λ h. after ≡ halted h z (begun z)) → IfErr r (λ h. after ≡ halted h z (interpreter_said z (Ok Show)).interpreter)
question_stopped z after (Ok bad) is h = tt
question_stopped z after (Err x) is h = h ∙ ap (halted x z) (sym (shut_reply z is).1)
