-- Requests that are played.
use Rattle.std.proofs.Common.{◌≡◌, ◌≢◌, ℕ, Bool, true, false, Option, None, Some, Ok, Err, refl, sym, ap, subst, ◌∙◌}
use Rattle.std.specs.Prelude.{is_some}
use Rattle.scene_kinds.specs.Answers.{Outcome, refusal_of}
use Rattle.scene_kinds.specs.declared.fault.Fault.TheVariants.{NoMemory}
use Rattle.scene_kinds.specs.declared.refusal.Refusal.{Refusal}
use Rattle.scene_script.specs.declared.bad_line.BadLine.TheVariants.{NoFrame}
use Rattle.scene_script.specs.declared.script_line.Line.TheVariants.{Show, Undo}
use Rattle.scene_requests.specs.declared.request.Request.{Request}
use Rattle.scene_requests.specs.declared.request.Request.TheVariants.{Line, Ask, Turn, DropFrame, Declare}
use Rattle.scene_session.specs.declared.call.Reply.TheVariants as reply
use Rattle.scene_session.specs.declared.way.Way.{Way}
use Rattle.scene_interpreter.specs.Answer.{said_of}
use Rattle.scene_interpreter.specs.Changes.{changes_said, changes_within, frame_is_open, said_changes}
use Rattle.scene_interpreter.specs.declared.answer.LineAnswer.{LineAnswer}
use Rattle.scene_interpreter.specs.declared.answer.LineAnswer.TheVariants as code
use Rattle.scene_interpreter.specs.Interpreter.{Interpreter, LineReply, Setting, Playing, Tells, played, without_frame}
use Rattle.scene_interpreter.specs.OpenFrame.{Opened}
use Rattle.scene_interpreter.specs.Play.{with_frame}
use Rattle.scene_interpreter.specs.Said.{Bad, Taken, refused}
use Rattle.scene_interpreter.specs.Turns.{turn_reply, turn_said}
use Rattle.scene_interpreter.proofs.ChangeLaws.{said_unchanged}
use Rattle.scene_answers.specs.Asked.{along, asked_changes, asked_reply, declare_reply, drop_reply, reply_with}

-- ---- what an answer tells

-- an answer tells the reply of its meaning
tells : (answer : LineAnswer) (after : Interpreter) (r : LineReply) → r ≡ reply_with (said_of answer) after → Tells answer after r
tells answer after r is = subst (Tells answer after) (sym is) (refl, refl, refl, refl)

-- a frame that was dropped
pub drops : (p q : Interpreter) (b : Bool) → b ≡ frame_is_open p → b ≡ true → q ≡ without_frame p
    → Tells code.Taken q (drop_reply p (frame_is_open p))
drops p q b is so h =
    tells code.Taken q (drop_reply p (frame_is_open p)) (ap (drop_reply p) (sym is ∙ so) ∙ ap (reply_with Taken) (sym h))

-- where no frame is open there is none to drop
unopened : (p : Interpreter) → frame_is_open p ≡ false → without_frame p ≡ p
unopened (Setting s) is = refl
unopened (Playing s) is = by_frame s.frame refl is
  where
    by_frame : (f : Option Opened) → s.frame ≡ f → is_some f ≡ false → without_frame (Playing s) ≡ Playing s
    by_frame None none so = ap (λ f. Playing (with_frame s f)) (sym none)
    by_frame (Some f) some so = absurd (cc so)

pub drops_none : (p q : Interpreter) (b : Bool) → b ≡ frame_is_open p → b ≡ false → q ≡ without_frame p
    → Tells (code.Bad NoFrame) q (drop_reply p (frame_is_open p))
drops_none p q b is so h =
    let shut : frame_is_open p ≡ false = sym is ∙ so in
    tells (code.Bad NoFrame) q (drop_reply p (frame_is_open p))
    (ap (drop_reply p) shut ∙ ap (reply_with (Bad NoFrame)) (sym (h ∙ unopened p shut)))

-- a kind that was declared
pub declared : (p q : Interpreter) (outcome : Outcome ℕ Interpreter) (number : ℕ) → outcome ≡ Ok (number, q)
    → Tells code.Taken q (declare_reply p outcome)
declared p q outcome number is = tells code.Taken q (declare_reply p outcome) (ap (declare_reply p) is)

-- and one that was refused
pub undeclared : (p q : Interpreter) (outcome : Outcome ℕ Interpreter) (r : Refusal) (answer : LineAnswer)
    → answer ≡ code.Replied (reply.Refused r) → r ≢ refusal_of NoMemory → (q ≡ p) × (r ≢ refusal_of NoMemory → outcome ≡ Err r)
    → Tells answer q (declare_reply p outcome)
undeclared p q outcome r answer is other h =
    subst (λ a. Tells a q (declare_reply p outcome)) (sym is) (tells (code.Replied (reply.Refused r)) q (declare_reply p outcome)
    (ap (declare_reply p) (h.1 other) ∙ ap (reply_with (refused r)) (sym h.0)))

-- ---- a request that changes nothing

-- where no frame is open none is dropped
undropped : (p : Interpreter) (b : Bool) → b ≡ false → (drop_reply p b).interpreter ≡ p
undropped p true is = absurd (cc is)
undropped p false is = refl

-- in an open frame nothing is undone
unturned : (p : Interpreter) (way : Way) (count : ℕ) → said_changes p (Ok Undo) ≡ false → (turn_said p way count).interpreter ≡ p
unturned (Setting s) way count is = absurd (cc is)
unturned (Playing s) way count is = by_frame s.frame is
  where
    by_frame : (f : Option Opened) → changes_said (changes_within f) (Ok Undo) ≡ false → (played (turn_reply s way count f)).interpreter ≡ Playing s
    by_frame None so = absurd (cc so)
    by_frame (Some f) so = refl

pub asked_unchanged : (p : Interpreter) (asked : Request) → asked_changes p asked ≡ false → (asked_reply p asked).interpreter ≡ p
asked_unchanged p (Line line) is = said_unchanged p (Ok line) is
asked_unchanged p (Ask question) is = said_unchanged p (Ok Show) is
asked_unchanged p (Turn way count) is = unturned p (along way) count is
asked_unchanged p DropFrame is = undropped p (frame_is_open p) is
asked_unchanged p (Declare name shape) is = absurd (cc is)
