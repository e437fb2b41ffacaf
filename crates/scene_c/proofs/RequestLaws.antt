-- What requests are answered that ask what no line does.
use Rattle.std.proofs.Common.{◌≡◌, ◌≢◌, ℕ, List, true, false, [], ◌++◌, Option, Some, None, Result, Ok, Err, IfErr, IfOk, refl, sym, ap, subst, ◌∙◌}
use Rattle.std.specs.Prelude.{is_some}
use Rattle.scene_script.specs.declared.bad_line.BadLine.{BadLine}
use Rattle.scene_script.specs.declared.bad_line.BadLine.TheVariants.{FrameOpen}
use Rattle.scene_script.specs.declared.script_line.Line.TheVariants.{Show}
use Rattle.scene_requests.specs.declared.question.Question.{Question}
use Rattle.scene_requests.specs.declared.request.Request.{Request}
use Rattle.scene_requests.specs.declared.request.Request.TheVariants.{Line, Ask, Turn, DropFrame, Declare}
use Rattle.scene_interpreter.specs.declared.answer.LineAnswer.{LineAnswer}
use Rattle.scene_interpreter.specs.declared.answer.LineAnswer.TheVariants as code
use Rattle.scene_interpreter.specs.declared.halt.Halt.{Halt}
use Rattle.scene_interpreter.specs.declared.halt.Halt.TheVariants.{Before, Begun, After, Lost}
use Rattle.scene_interpreter.specs.Answer.{said_of}
use Rattle.scene_interpreter.specs.Changes.{frame_is_open}
use Rattle.scene_interpreter.specs.Interpreter.{Interpreter, LineReply, Setting, Playing, Tells, begun, halted, interpreter_said}
use Rattle.scene_interpreter.specs.JsonLine.{AddsAnswer, IsAsked}
use Rattle.scene_interpreter.specs.OpenFrame.{Opened}
use Rattle.scene_interpreter.specs.Play.{reply_within}
use Rattle.scene_interpreter.specs.Said.{Bad, Text}
use Rattle.scene_answers.specs.Asked.{asked_reply, reply_with}
use Rattle.scene_c.specs.Requests.{question_reply, question_text, request_reply, unanswered}

-- an answer tells the reply of its meaning
tells : (answer : LineAnswer) (after : Interpreter) (r : LineReply) → r ≡ reply_with (said_of answer) after → Tells answer after r
tells answer after r is = subst (Tells answer after) (sym is) (refl, refl, refl, refl)

-- ---- a question where no frame is open

-- it ends the setup, as `show` does
ends_setup : (p : Interpreter) → frame_is_open p ≡ false → (interpreter_said p (Ok Show)).interpreter ≡ begun p
ends_setup (Setting s) is = refl
ends_setup (Playing s) is = by_frame s.frame refl is
  where
    by_frame : (f : Option Opened) → s.frame ≡ f → is_some f ≡ false → (interpreter_said (Playing s) (Ok Show)).interpreter ≡ Playing s
    by_frame None none so = ap (λ o. Playing (reply_within s Show o).state) none
    by_frame (Some f) some so = absurd (cc so)

-- its text is the answer
pub question_told : (p q : Interpreter) (question : Question) (old new : List ℕ) (bad : Option BadLine) (answer : LineAnswer) → frame_is_open p ≡ false
    → old ≡ [] → IsAsked old new p q question bad → said_of answer ≡ Text new → Tells answer q (question_reply p question (frame_is_open p))
question_told p q question old new bad answer is empty asked said =
    let text : new ≡ question_text p question = subst (AddsAnswer old new p question) is asked.2 ∙ ap (λ o. o ++ question_text p question) empty in
    let behind : q ≡ begun p = asked.1 ∙ ends_setup p is in
    tells answer q (question_reply p question (frame_is_open p))
    (ap (question_reply p question) is ∙ ap (λ t. reply_with (Text t) (begun p)) (sym text) ∙ ap (λ s. reply_with s (begun p)) (sym said)
    ∙ ap (reply_with (said_of answer)) (sym behind))

-- what want of memory leaves
left_by : (h : Halt) (p : Interpreter) (r : Interpreter) → halted h p (begun p) ≡ halted (unanswered h) p r
left_by Before p r = refl
left_by Begun p r = refl
left_by After p r = refl
left_by Lost p r = refl

pub question_halted : (h k : Halt) (p q r : Interpreter) → frame_is_open p ≡ false → q ≡ halted h p (interpreter_said p (Ok Show)).interpreter
    → k ≡ unanswered h → q ≡ halted k p r
question_halted h k p q r is left so =
    left ∙ ap (halted h p) (ends_setup p is) ∙ left_by h p r ∙ ap (λ (x : Halt). halted x p r) (sym so)

apart : (h : Halt) → unanswered h ≢ After
apart Before is = absurd (cc is)
apart Begun is = absurd (cc is)
apart After is = absurd (cc is)
apart Lost is = absurd (cc is)

pub never_after : (h k : Halt) → k ≡ unanswered h → k ≢ After
never_after h k so is = apart h (sym so ∙ is)

-- ---- in an open frame

pub misplaced : (p : Interpreter) (question : Question) → frame_is_open p ≡ true → Tells (code.Bad FrameOpen) p (question_reply p question (frame_is_open p))
misplaced p question is = tells (code.Bad FrameOpen) p (question_reply p question (frame_is_open p)) (ap (question_reply p question) is)

-- ---- any other request

other_reply : (p : Interpreter) (asked : Request) → ((question : Question) → asked ≡ Ask question → ⊥) → asked_reply p asked ≡ request_reply p asked
other_reply p (Line line) never = refl
other_reply p (Ask question) never = absurd (never question refl)
other_reply p (Turn way count) never = refl
other_reply p DropFrame never = refl
other_reply p (Declare name shape) never = refl

pub other_told : (p q : Interpreter) (asked : Request) (r : Result LineAnswer Halt) → ((question : Question) → asked ≡ Ask question → ⊥)
    → IfOk r (λ answer. Tells answer q (asked_reply p asked)) → IfOk r (λ answer. Tells answer q (request_reply p asked))
other_told p q asked r never told = subst (λ reply. IfOk r (λ answer. Tells answer q reply)) (other_reply p asked never) told

pub other_halted : (p q : Interpreter) (asked : Request) (r : Result LineAnswer Halt) → ((question : Question) → asked ≡ Ask question → ⊥)
    → IfErr r (λ h. q ≡ halted h p (asked_reply p asked).interpreter) → IfErr r (λ h. q ≡ halted h p (request_reply p asked).interpreter)
other_halted p q asked r never left =
    subst (λ (reply : LineReply). IfErr r (λ h. q ≡ halted h p reply.interpreter)) (other_reply p asked never) left

pub ruleset others = (other_told, other_halted)
