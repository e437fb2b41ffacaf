-- A line of a shell: a request, or a line of a script (docs/SHELL.md, "Requests").
use Rattle.std.specs.Prelude.{◌≡◌, ℕ, List, [], ◌∷◌, Bool, true, false, Option, Some, None, option_map, Result, Ok, Err, if◌then◌else◌, codes}
use Rattle.serde_json.specs.Data.{Data, string}
use Rattle.scene_kinds.specs.Schema.{Kinds}
use Rattle.scene_script.specs.declared.script_line.Line.{Line}
use Rattle.scene_script.specs.declared.bad_line.BadLine.{BadLine}
use Rattle.scene_script.specs.Script.{line_in}
use Rattle.scene_print.specs.JsonObjects.{answer_of}
use Rattle.scene_requests.specs.declared.request.Request.{Request}
use Rattle.scene_requests.specs.declared.request.Request.TheVariants as asked
use Rattle.scene_requests.specs.declared.bad_request.BadRequest.{BadRequest}
use Rattle.scene_requests.specs.declared.bad_request.BadRequest.TheVariants.{NotJson, TooLong, UnknownKey, BadField}
use Rattle.scene_requests.specs.Request.{is_request, request_in}
use Rattle.scene_interpreter.specs.Changes.{changes}
use Rattle.scene_interpreter.specs.Interpreter.{Interpreter, LineReply, interpreter_kinds, interpreter_reply}
use Rattle.scene_interpreter.specs.JsonAnswer.{bad_json, json_line}
use Rattle.scene_interpreter.specs.JsonLine.{IsAnsweredAsJson}
use Rattle.scene_answers.specs.Asked.{AddsAsked, asked_changes, asked_reply}
use Rattle.scene_shell.specs.declared.bad_shell_line.BadShellLine.{BadShellLine}
use Rattle.scene_shell.specs.declared.bad_shell_line.BadShellLine.TheVariants as why

-- ---- the reply

-- why a line is bad, where it is, and the interpreter after it
pub record ShellReply : Type 0 where
  pub bad : Option BadShellLine
  pub interpreter : Interpreter

-- those of a line of a script
abbrev pub of_line : LineReply → ShellReply
of_line r = record { bad = option_map why.Line r.bad; interpreter = r.interpreter }

-- those of a request; a bad one changes nothing
abbrev pub of_request : Interpreter → Result Request BadRequest → ShellReply
of_request p (Ok request) = of_line (asked_reply p request)
of_request p (Err reason) = record { bad = Some (why.Request reason); interpreter = p }

-- those of a line of a shell, by its bytes
abbrev pub shell_reply : Interpreter → List ℕ → ShellReply
shell_reply p l = if is_request l then of_request p (request_in (interpreter_kinds p) l) else of_line (interpreter_reply p l)

-- ---- what a line says

-- the line that a request stands for, where it stands for one; a bad one stands for none
abbrev pub line_of_request : Result Request BadRequest → Option Line
line_of_request (Ok (asked.Line said)) = Some said
line_of_request other = None

-- what a line of a script says, where it isn't bad
abbrev pub good_line : Result Line BadLine → Option Line
good_line (Ok line) = Some line
good_line (Err reason) = None

-- what a line of a shell says, by these kinds and its bytes, where it is good and stands for a line
abbrev pub shell_said : Kinds → List ℕ → Option Line
shell_said kinds l = if is_request l then line_of_request (request_in kinds l) else good_line (line_in kinds l)

-- ---- which lines may change an interpreter

-- a request may where what it asks for may; a bad one may not
abbrev pub request_changes : Interpreter → Result Request BadRequest → Bool
request_changes p (Ok request) = asked_changes p request
request_changes p (Err reason) = false

-- whether a line may, by its bytes
abbrev pub shell_changes : Interpreter → List ℕ → Bool
shell_changes p l = if is_request l then request_changes p (request_in (interpreter_kinds p) l) else changes p l

-- ---- the answer

-- a request that is bad at a path, in words that say why
abbrev pub bad_at_json : (words path : List ℕ) → Data
bad_at_json words path = answer_of (codes "bad") ((codes "reason", string words) ∷ (codes "path", string path) ∷ [])

-- a bad request, in words that say why, with the path of the first part that has no form, where there is such a part
abbrev pub bad_request_json : List ℕ → BadRequest → Data
bad_request_json words NotJson = bad_json words
bad_request_json words TooLong = bad_json words
bad_request_json words (UnknownKey path) = bad_at_json words path
bad_request_json words (BadField path) = bad_at_json words path

-- the answer to a bad request: some words, and its path
abbrev pub IsBadAnswer : BadRequest → List ℕ → Type 0
IsBadAnswer reason text = (words : List ℕ) × (text ≡ json_line (bad_request_json words reason))

-- the answer to what a request asks for
abbrev pub IsGoodAnswer : Interpreter → Request → List ℕ → Type 0
IsGoodAnswer p request text = AddsAsked [] text p (asked_reply p request).interpreter request

-- the answer to a request, or why it is bad
abbrev pub IsRequestAnswer : Interpreter → Result Request BadRequest → List ℕ → Type 0
IsRequestAnswer p (Ok request) text = IsGoodAnswer p request text
IsRequestAnswer p (Err reason) text = IsBadAnswer reason text

-- the answer to a line of a script is what a script prints, or it is JSON
abbrev pub IsLineAnswer : (is_json : Bool) → Interpreter → List ℕ → List ℕ → Type 0
IsLineAnswer false p l text = text ≡ (interpreter_reply p l).text
IsLineAnswer true p l text = IsAnsweredAsJson [] text p (interpreter_reply p l).interpreter l (interpreter_reply p l).bad

-- by whether a line is a request, which is answered as JSON in any case
abbrev pub IsAnswerBy : (request is_json : Bool) → Interpreter → List ℕ → List ℕ → Type 0
IsAnswerBy true is_json p l text = IsRequestAnswer p (request_in (interpreter_kinds p) l) text
IsAnswerBy false is_json p l text = IsLineAnswer is_json p l text
