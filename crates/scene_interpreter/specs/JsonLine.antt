-- A line, or what it says, that is answered as JSON (docs/SHELL.md, "JSON").
use Rattle.std.specs.Prelude.{◌≡◌, ℕ, List, ◌++◌, Bool, true, false, Option, Some, None, Result, Ok, if◌then◌else◌}
use Rattle.scene_session.specs.Owner.{whole_at}
use Rattle.scene_script.specs.declared.bad_line.BadLine.{BadLine}
use Rattle.scene_script.specs.declared.script_line.Line.{Line}
use Rattle.scene_script.specs.declared.script_line.Line.TheVariants as line
use Rattle.scene_script.specs.Script.{line_in}
use Rattle.scene_interpreter.specs.declared.json_question.StateJson.{StateJson}
use Rattle.scene_interpreter.specs.declared.json_question.StateJson.TheVariants.{Show, Get, Dump, DumpAll, Ask}
use Rattle.scene_interpreter.specs.Changes.{frame_is_open}
use Rattle.scene_interpreter.specs.JsonAnswer.{bad_json, json_line, json_text}
use Rattle.scene_interpreter.specs.JsonQuestion.{asked_json}
use Rattle.scene_requests.specs.declared.question.Question.{Question}
use Rattle.scene_interpreter.specs.Interpreter.{Interpreter, owner_of, interpreter_kinds, interpreter_said}

-- a line that asks for a text of the state
abbrev pub question_of : Result Line BadLine → Option StateJson
question_of (Ok line.Show) = Some Show
question_of (Ok (line.Get e)) = Some (Get e)
question_of (Ok line.Dump) = Some Dump
question_of (Ok line.DumpAll) = Some DumpAll
question_of said = None

-- what a line that says this asks of the state, where it does; in an open frame no line does
abbrev pub asked_by : Interpreter → Result Line BadLine → Option StateJson
asked_by z said = if frame_is_open z then None else question_of said

-- a line of JSON was added: what the state is asked for; or else that of what the reply to the line means
abbrev pub AddsJson : (old new : List ℕ) → (before after : Interpreter) → Result Line BadLine → Option StateJson → Type 0
AddsJson old new before after said (Some asked) = new ≡ old ++ json_line (asked_json asked (whole_at (owner_of before)))
AddsJson old new before after said None =
    (words : List ℕ) × (new ≡ old ++ json_text (interpreter_kinds after) words (interpreter_said before said).said)

-- a line of JSON was added, and the interpreter and why the line is bad are those of the reply to what it says
abbrev pub IsSaidAsJson : (old new : List ℕ) → (before after : Interpreter) → Result Line BadLine → Option BadLine → Type 0
IsSaidAsJson old new before after said bad =
    (bad ≡ (interpreter_said before said).bad) × (after ≡ (interpreter_said before said).interpreter)
    × AddsJson old new before after said (asked_by before said)

-- the same of a line by its bytes
abbrev pub IsAnsweredAsJson : (old new : List ℕ) → (before after : Interpreter) → List ℕ → Option BadLine → Type 0
IsAnsweredAsJson old new before after bytes bad =
    IsSaidAsJson old new before after (line_in (interpreter_kinds before) bytes) bad

-- a line of JSON was added that answers a question, or says that a frame is open
abbrev pub AddsAnswer : (old new : List ℕ) → Interpreter → Question → (is_open : Bool) → Type 0
AddsAnswer old new before question true = (words : List ℕ) × (new ≡ old ++ json_line (bad_json words))
AddsAnswer old new before question false = new ≡ old ++ json_line (asked_json (Ask question) (whole_at (owner_of before)))

-- a question was answered, which is to the interpreter as `show` is: it ends the setup, and is a bad line where a frame is
-- open
abbrev pub IsAsked : (old new : List ℕ) → (before after : Interpreter) → Question → Option BadLine → Type 0
IsAsked old new before after question bad =
    (bad ≡ (interpreter_said before (Ok line.Show)).bad) × (after ≡ (interpreter_said before (Ok line.Show)).interpreter)
    × AddsAnswer old new before question (frame_is_open before)
