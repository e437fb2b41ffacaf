-- Requests to interpreters that are the same in all but which calls there were.
use Rattle.std.proofs.Common.{◌≡◌, ℕ, List, ◌++◌, Bool, true, false, Ok, refl, ap, subst, ◌∙◌}
use Rattle.std.specs.Prelude.{Err}
use Rattle.scene_kinds.specs.Answers.{Outcome}
use Rattle.scene_script.specs.declared.bad_line.BadLine.TheVariants.{NoFrame}
use Rattle.scene_script.specs.declared.script_line.Line.TheVariants.{Show, Undo}
use Rattle.scene_requests.specs.declared.request.Request.{Request}
use Rattle.scene_requests.specs.declared.request.Request.TheVariants.{Line, Ask, Turn, DropFrame, Declare}
use Rattle.scene_interpreter.specs.Apart.{RepliesApart, SameApart}
use Rattle.scene_interpreter.specs.Changes.{frame_is_open}
use Rattle.scene_interpreter.specs.FurtherKind.{declare_in}
use Rattle.scene_interpreter.specs.Interpreter.{Interpreter, LineReply, interpreter_kinds, without_frame}
use Rattle.scene_interpreter.specs.Said.{Bad, Taken, refused}
use Rattle.scene_interpreter.specs.JsonAnswer.{json_text}
use Rattle.scene_interpreter.proofs.Apart.{OutcomesApart, changes_apart, declare_apart, frames_apart, json_apart, question_apart, reply_apart, reply_json_apart, said_apart, turn_apart, without_frame_apart}
use Rattle.scene_answers.specs.Asked.{AddsAsked, along, asked_changes, asked_reply, declare_reply, drop_reply}

pub asked_changes_apart : (p q : Interpreter) (asked : Request) → SameApart p q → asked_changes p asked ≡ asked_changes q asked
asked_changes_apart p q (Line line) same = changes_apart p q (Ok line) same
asked_changes_apart p q (Ask question) same = changes_apart p q (Ok Show) same
asked_changes_apart p q (Turn way count) same = changes_apart p q (Ok Undo) same
asked_changes_apart p q DropFrame same = frames_apart p q same
asked_changes_apart p q (Declare name shape) same = refl

drop_apart : (p q : Interpreter) (is_open : Bool) → SameApart p q → RepliesApart (drop_reply p is_open) (drop_reply q is_open)
drop_apart p q true same = reply_apart Taken (without_frame p) (without_frame q) (without_frame_apart p q same)
drop_apart p q false same = reply_apart (Bad NoFrame) p q same

declared_apart : (p q : Interpreter) (o u : Outcome ℕ Interpreter) → SameApart p q → OutcomesApart o u → RepliesApart (declare_reply p o) (declare_reply q u)
declared_apart p q (Ok a) (Ok b) same both = reply_apart Taken a.1 b.1 both.1
declared_apart p q (Ok a) (Err r) same both = absurd both
declared_apart p q (Err r) (Ok b) same both = absurd both
declared_apart p q (Err e) (Err r) same both =
    subst (λ reason. RepliesApart (declare_reply p (Err e)) (declare_reply q (Err reason))) both (reply_apart (refused e) p q same)

pub asked_apart : (p q : Interpreter) (asked : Request) → SameApart p q → RepliesApart (asked_reply p asked) (asked_reply q asked)
asked_apart p q (Line line) same = said_apart p q (Ok line) same
asked_apart p q (Ask question) same = said_apart p q (Ok Show) same
asked_apart p q (Turn way count) same = turn_apart p q (along way) count same
asked_apart p q DropFrame same =
    subst (λ b. RepliesApart (drop_reply p (frame_is_open p)) (drop_reply q b)) (frames_apart p q same) (drop_apart p q (frame_is_open p) same)
asked_apart p q (Declare name shape) same =
    declared_apart p q (declare_in name shape p) (declare_in name shape q) same (declare_apart p q name shape same)

-- ---- answers

-- that of a reply, in some words
told_apart : (r u : LineReply) (old new : List ℕ) → RepliesApart r u
    → (words : List ℕ) × (new ≡ old ++ json_text (interpreter_kinds r.interpreter) words r.said)
    → (words : List ℕ) × (new ≡ old ++ json_text (interpreter_kinds u.interpreter) words u.said)
told_apart r u old new same is = (is.0, is.1 ∙ ap (λ line. old ++ line) (reply_json_apart r u is.0 same))

pub adds_apart : (p q : Interpreter) (asked : Request) (old new : List ℕ) → SameApart p q
    → AddsAsked old new p (asked_reply p asked).interpreter asked → AddsAsked old new q (asked_reply q asked).interpreter asked
adds_apart p q (Line line) old new same is = json_apart p q (Ok line) old new same is
adds_apart p q (Ask question) old new same is = question_apart p q question old new same is
adds_apart p q (Turn way count) old new same is =
    told_apart (asked_reply p (Turn way count)) (asked_reply q (Turn way count)) old new (asked_apart p q (Turn way count) same) is
adds_apart p q DropFrame old new same is =
    told_apart (asked_reply p DropFrame) (asked_reply q DropFrame) old new (asked_apart p q DropFrame same) is
adds_apart p q (Declare name shape) old new same is =
    told_apart (asked_reply p (Declare name shape)) (asked_reply q (Declare name shape)) old new (asked_apart p q (Declare name shape) same) is
