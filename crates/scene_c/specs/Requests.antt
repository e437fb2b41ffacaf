-- Requests: JSON objects in place of lines, whose texts have any characters, and which ask and do what no line does too.
use Rattle.std.specs.Prelude.{◌≡◌, ◌⊎◌, ℕ, List, Bool, true, false, Option, Some, None, Result, Ok, Err}
use Rattle.scene_script.specs.declared.bad_line.BadLine.TheVariants.{FrameOpen}
use Rattle.scene_requests.specs.Request.{request_in}
use Rattle.scene_requests.specs.declared.bad_request.BadRequest.{BadRequest}
use Rattle.scene_requests.specs.declared.question.Question.{Question}
use Rattle.scene_requests.specs.declared.request.Request.{Request}
use Rattle.scene_requests.specs.declared.request.Request.TheVariants as asks
use Rattle.scene_questions.specs.Questions.{question_json}
use Rattle.scene_session.specs.Owner.{whole_at}
use Rattle.scene_interpreter.specs.declared.halt.Halt.{Halt}
use Rattle.scene_interpreter.specs.declared.halt.Halt.TheVariants.{Begun, After}
use Rattle.scene_interpreter.specs.Answer.{said_of}
use Rattle.scene_interpreter.specs.Changes.{frame_is_open}
use Rattle.scene_interpreter.specs.Interpreter.{Interpreter, LineReply, begun, interpreter_kinds, interpreter_of, owner_of}
use Rattle.scene_interpreter.specs.JsonAnswer.{json_line}
use Rattle.scene_interpreter.specs.JsonQuestion.{editor_in}
use Rattle.scene_interpreter.specs.Said.{Bad, Nothing, Text}
use Rattle.scene_answers.specs.Asked.{asked_reply, reply_with}
use Rattle.scene_c.specs.Calls.{Played}
use Rattle.scene_c.specs.HeldScene.{StaysShared}
use Rattle.scene_c.specs.OpenScene.{KeepsAnswer}
use Rattle.scene_c.specs.declared.held_scene.HeldScene.{HeldScene}
use Rattle.scene_c.specs.declared.held_scene.HeldScene.TheVariants.{Alone, Shared}
use Rattle.scene_c.specs.declared.open_scene.OpenScene.{OpenScene}

-- ---- the reply

-- what a question is answered with: a line of JSON
abbrev pub question_text : Interpreter → Question → List ℕ
question_text p question = json_line (question_json question (editor_in (whole_at (owner_of p))))

-- the reply to a question is that text, and the setup is over; in an open frame it is out of place
abbrev pub question_reply : Interpreter → Question → (is_open : Bool) → LineReply
question_reply p question true = reply_with (Bad FrameOpen) p
question_reply p question false = reply_with (Text (question_text p question)) (begun p)

-- the reply to what a request asks for: to a question that text, and else what the interpreter replies
abbrev pub request_reply : Interpreter → Request → LineReply
request_reply p (asks.Ask question) = question_reply p question (frame_is_open p)
request_reply p asked = asked_reply p asked

-- what want of memory leaves of a question: where its text alone is wanting, nothing is told
abbrev pub unanswered : Halt → Halt
unanswered After = Begun
unanswered h = h

-- ---- calls

-- no memory was found for what a request says, and nothing was done
abbrev pub IsLeft : (old new : OpenScene) → ℕ → Type 0
IsLeft old new code = (code ≡ 1) × KeepsAnswer old new × (interpreter_of new.interpreter ≡ interpreter_of old.interpreter)

-- what a request asks for is played, with the text of its answer; a bad one changes nothing, and is no answer
abbrev pub PlaysRequest : Result Request BadRequest → (old new : OpenScene) → ℕ → Type 0
PlaysRequest (Ok asked) old new code =
    Played old new (request_reply (interpreter_of old.interpreter) asked) (request_reply (interpreter_of old.interpreter) asked).text code
PlaysRequest (Err reason) old new code =
    (code ≡ 4) × (said_of new.answer ≡ Nothing) × (interpreter_of new.interpreter ≡ interpreter_of old.interpreter)

-- a request by its bytes, as the kinds that are declared read it
abbrev pub IsRequested : List ℕ → (old new : OpenScene) → ℕ → Type 0
IsRequested bytes old new code =
    IsLeft old new code ⊎ PlaysRequest (request_in (interpreter_kinds (interpreter_of old.interpreter)) bytes) old new code

-- of the scene that a handle holds
abbrev pub Requests : List ℕ → Option HeldScene → Option HeldScene → ℕ → Type 0
Requests bytes None None code = code ≡ 2
Requests bytes (Some (Alone old)) (Some (Alone new)) code = IsRequested bytes old new code × (new.cells.items ≡ old.cells.items)
Requests bytes (Some (Shared old)) new code = StaysShared (Shared old) new code
Requests bytes old new code = ⊥
