-- What a request comes to, and what it is answered (docs/SHELL.md, "Requests").
use Rattle.std.specs.Prelude.{◌≡◌, ℕ, List, ◌++◌, Bool, true, false, Option, Ok, Err}
use Rattle.scene_kinds.specs.Answers.{Outcome}
use Rattle.scene_script.specs.declared.bad_line.BadLine.{BadLine}
use Rattle.scene_script.specs.declared.bad_line.BadLine.TheVariants.{NoFrame}
use Rattle.scene_script.specs.declared.script_line.Line.TheVariants.{Show, Undo}
use Rattle.scene_requests.specs.declared.question.Way.{Way}
use Rattle.scene_requests.specs.declared.question.Way.TheVariants.{Back, Forth}
use Rattle.scene_requests.specs.declared.request.Request.{Request}
use Rattle.scene_requests.specs.declared.request.Request.TheVariants.{Line, Ask, Turn, DropFrame, Declare}
use Rattle.scene_session.specs.declared.way.Way.{Way as FrameWay}
use Rattle.scene_session.specs.declared.way.Way.TheVariants as frames
use Rattle.scene_interpreter.specs.Changes.{frame_is_open, said_changes}
use Rattle.scene_interpreter.specs.FurtherKind.{declare_in}
use Rattle.scene_interpreter.specs.Interpreter.{Interpreter, LineReply, interpreter_kinds, interpreter_said, reply_of, without_frame}
use Rattle.scene_interpreter.specs.JsonAnswer.{json_text}
use Rattle.scene_interpreter.specs.JsonLine.{AddsAnswer, AddsJson, asked_by}
use Rattle.scene_interpreter.specs.Said.{Said, Bad, Taken, refused}
use Rattle.scene_interpreter.specs.Turns.{turn_said}

-- ---- the reply

-- that of a meaning, where this is the interpreter after it
abbrev pub reply_with : Said → Interpreter → LineReply
reply_with said p = reply_of (interpreter_kinds p) said p

-- that to the end of an open frame, which is dropped; where none is open it is bad
abbrev pub drop_reply : Interpreter → (is_open : Bool) → LineReply
drop_reply p true = reply_with Taken (without_frame p)
drop_reply p false = reply_with (Bad NoFrame) p

-- that to a declaration; a refused one changes nothing
abbrev pub declare_reply : Interpreter → Outcome ℕ Interpreter → LineReply
declare_reply p (Ok q) = reply_with Taken q.1
declare_reply p (Err r) = reply_with (refused r) p

-- the way along the frames on which the world goes so
abbrev pub along : Way → FrameWay
along Back = frames.Back
along Forth = frames.On

-- that to what a request asks for: a line's is the line's, and a question is to the interpreter as `show` is
abbrev pub asked_reply : Interpreter → Request → LineReply
asked_reply p (Line line) = interpreter_said p (Ok line)
asked_reply p (Ask question) = interpreter_said p (Ok Show)
asked_reply p (Turn way count) = turn_said p (along way) count
asked_reply p DropFrame = drop_reply p (frame_is_open p)
asked_reply p (Declare name shape) = declare_reply p (declare_in name shape p)

-- ---- which requests may change an interpreter

-- those that stand for a line that may, several undos or redos as one undo may, the end of an open frame, and a
-- declaration
abbrev pub asked_changes : Interpreter → Request → Bool
asked_changes p (Line line) = said_changes p (Ok line)
asked_changes p (Ask question) = said_changes p (Ok Show)
asked_changes p (Turn way count) = said_changes p (Ok Undo)
asked_changes p DropFrame = frame_is_open p
asked_changes p (Declare name shape) = true

-- ---- the answer

-- a line of JSON was added: that of a line, that of a question, or else that of what the reply says, in some words where
-- it is bad
abbrev pub AddsAsked : (old new : List ℕ) → (before after : Interpreter) → Request → Type 0
AddsAsked old new before after (Line line) = AddsJson old new before after (Ok line) (asked_by before (Ok line))
AddsAsked old new before after (Ask question) = AddsAnswer old new before question (frame_is_open before)
AddsAsked old new before after request =
    (words : List ℕ) × (new ≡ old ++ json_text (interpreter_kinds after) words (asked_reply before request).said)

-- and why it is bad, and the interpreter, are those of the reply
abbrev pub IsAskedAnswer : (old new : List ℕ) → (before after : Interpreter) → Request → Option BadLine → Type 0
IsAskedAnswer old new before after request bad =
    (bad ≡ (asked_reply before request).bad) × (after ≡ (asked_reply before request).interpreter)
    × AddsAsked old new before after request
