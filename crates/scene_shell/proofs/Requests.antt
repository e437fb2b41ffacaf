-- Requests among the lines of a shell.
use Rattle.std.proofs.Common.{◌≡◌, ℕ, List, Bool, true, false, cond, [], ◌++◌, Option, Result, Ok, Err, IfErr, IfOk, OnOk, option_map, refl, sym, ap, subst, ◌∙◌}
use Rattle.scene_script.specs.declared.bad_line.BadLine.{BadLine}
use Rattle.scene_requests.specs.declared.request.Request.{Request}
use Rattle.scene_requests.specs.declared.bad_request.BadRequest.{BadRequest}
use Rattle.scene_requests.specs.Request.{is_request, request_in}
use Rattle.scene_interpreter.specs.Changes.{changes}
use Rattle.scene_interpreter.specs.declared.halt.Halt.{Halt}
use Rattle.scene_interpreter.specs.Interpreter.{Interpreter, halted, interpreter_kinds, interpreter_reply}
use Rattle.scene_interpreter.specs.JsonAnswer.{json_line}
use Rattle.scene_interpreter.proofs.ChangeLaws.{unchanged}
use Rattle.scene_answers.specs.Asked.{AddsAsked, IsAskedAnswer}
use Rattle.scene_answers.proofs.AskedLaws.{asked_unchanged}
use Rattle.scene_shell.specs.declared.bad_shell_line.BadShellLine.{BadShellLine}
use Rattle.scene_shell.specs.declared.bad_shell_line.BadShellLine.TheVariants as why
use Rattle.scene_shell.specs.ShellLine.{IsAnswerBy, IsBadAnswer, IsGoodAnswer, IsLineAnswer, IsRequestAnswer, ShellReply, bad_request_json, of_line, of_request, request_changes, shell_changes, shell_reply}

-- ---- a line that changes nothing

request_unchanged : (p : Interpreter) (said : Result Request BadRequest) → request_changes p said ≡ false → (of_request p said).interpreter ≡ p
request_unchanged p (Ok asked) is = asked_unchanged p asked is
request_unchanged p (Err reason) is = refl

unchanged_by : (b : Bool) (p : Interpreter) (l : List ℕ)
    → (cond b (request_changes p (request_in (interpreter_kinds p) l)) (changes p l)) ≡ false
    → (cond {A = ShellReply} b (of_request p (request_in (interpreter_kinds p) l)) (of_line (interpreter_reply p l))).interpreter ≡ p
unchanged_by true p l is = request_unchanged p (request_in (interpreter_kinds p) l) is
unchanged_by false p l is = unchanged p l is

pub shell_unchanged : (p : Interpreter) (l : List ℕ) → shell_changes p l ≡ false → (shell_reply p l).interpreter ≡ p
shell_unchanged p l is = unchanged_by (is_request l) p l is

-- ---- by whether a line is a request

reply_to_request : (p : Interpreter) (l : List ℕ) → is_request l ≡ true → shell_reply p l ≡ of_request p (request_in (interpreter_kinds p) l)
reply_to_request p l is = ap (λ b. cond {A = ShellReply} b (of_request p (request_in (interpreter_kinds p) l)) (of_line (interpreter_reply p l))) is

pub reply_to_line : (p : Interpreter) (l : List ℕ) → is_request l ≡ false → shell_reply p l ≡ of_line (interpreter_reply p l)
reply_to_line p l is = ap (λ b. cond {A = ShellReply} b (of_request p (request_in (interpreter_kinds p) l)) (of_line (interpreter_reply p l))) is

-- what was done with a request was done with the line of the shell
pub request_answered : {E A : Type 0} (r : Result A E) (p : Interpreter) (l text : List ℕ) (is_json : Bool) → is_request l ≡ true
    → OnOk r (IsRequestAnswer p (request_in (interpreter_kinds p) l) text) → OnOk r (IsAnswerBy (is_request l) is_json p l text)
request_answered (Ok a) p l text is_json is so = subst (λ b. IsAnswerBy b is_json p l text) (sym is) so
request_answered (Err e) p l text is_json is so = tt

pub request_led : {E A : Type 0} (r : Result A E) (p q : Interpreter) (l : List ℕ) → is_request l ≡ true
    → OnOk r (q ≡ (of_request p (request_in (interpreter_kinds p) l)).interpreter) → OnOk r (q ≡ (shell_reply p l).interpreter)
request_led (Ok a) p q l is so = so ∙ ap (λ (s : ShellReply). s.interpreter) (sym (reply_to_request p l is))
request_led (Err e) p q l is so = tt

pub request_told : {E : Type 0} (r : Result (Option BadShellLine) E) (p : Interpreter) (l : List ℕ) → is_request l ≡ true
    → IfOk r (λ told. told ≡ (of_request p (request_in (interpreter_kinds p) l)).bad) → IfOk r (λ told. told ≡ (shell_reply p l).bad)
request_told (Ok told) p l is so = so ∙ ap (λ (s : ShellReply). s.bad) (sym (reply_to_request p l is))
request_told (Err e) p l is so = tt

pub request_halted : {A : Type 0} (r : Result A Halt) (p q : Interpreter) (l : List ℕ) → is_request l ≡ true
    → IfErr r (λ h. q ≡ halted h p (of_request p (request_in (interpreter_kinds p) l)).interpreter)
    → IfErr r (λ h. q ≡ halted h p (shell_reply p l).interpreter)
request_halted (Ok a) p q l is so = tt
request_halted (Err h) p q l is so = so ∙ ap (λ (s : ShellReply). halted h p s.interpreter) (sym (reply_to_request p l is))

pub request_changed : {E : Type 0} (r : Result Bool E) (p : Interpreter) (l : List ℕ) → is_request l ≡ true
    → IfOk r (λ b. b ≡ request_changes p (request_in (interpreter_kinds p) l)) → IfOk r (λ b. b ≡ shell_changes p l)
request_changed (Ok b) p l is so = so ∙ sym (ap (λ x. cond x (request_changes p (request_in (interpreter_kinds p) l)) (changes p l)) is)
request_changed (Err e) p l is so = tt

-- and so it is with a line of a script
pub line_changed : {E : Type 0} (r : Result Bool E) (p : Interpreter) (l : List ℕ) → is_request l ≡ false
    → IfOk r (λ b. b ≡ changes p l) → IfOk r (λ b. b ≡ shell_changes p l)
line_changed (Ok b) p l is so = so ∙ sym (ap (λ x. cond x (request_changes p (request_in (interpreter_kinds p) l)) (changes p l)) is)
line_changed (Err e) p l is so = tt

pub line_answered : (p : Interpreter) (l text : List ℕ) (is_json : Bool) → is_request l ≡ false
    → IsLineAnswer is_json p l text → IsAnswerBy (is_request l) is_json p l text
line_answered p l text is_json is so = subst (λ b. IsAnswerBy b is_json p l text) (sym is) so

pub line_led : (p q : Interpreter) (l : List ℕ) → is_request l ≡ false → q ≡ (interpreter_reply p l).interpreter → q ≡ (shell_reply p l).interpreter
line_led p q l is so = so ∙ ap (λ (s : ShellReply). s.interpreter) (sym (reply_to_line p l is))

pub line_told : (p : Interpreter) (l : List ℕ) (reason : Option BadLine) (told : Option BadShellLine) → is_request l ≡ false
    → reason ≡ (interpreter_reply p l).bad → told ≡ option_map why.Line reason → told ≡ (shell_reply p l).bad
line_told p l reason told is so shown = shown ∙ ap (option_map why.Line) so ∙ ap (λ (s : ShellReply). s.bad) (sym (reply_to_line p l is))

pub line_halted : (h : Halt) (p q : Interpreter) (l : List ℕ) → is_request l ≡ false
    → q ≡ halted h p (interpreter_reply p l).interpreter → q ≡ halted h p (shell_reply p l).interpreter
line_halted h p q l is so = so ∙ ap (λ (s : ShellReply). halted h p s.interpreter) (sym (reply_to_line p l is))

-- ---- the answer to a request

-- what a request asks for
pub is_good_answer : (p after : Interpreter) (asked : Request) (old text : List ℕ) (bad : Option BadLine) → old ≡ []
    → IsAskedAnswer old text p after asked bad → IsGoodAnswer p asked text
is_good_answer p after asked old text bad empty h =
    let so = subst (λ o. IsAskedAnswer o text p after asked bad) empty h in subst (λ a. AddsAsked [] text p a asked) so.1 so.2

-- and one that is bad
pub is_bad_answer : (reason : BadRequest) (words old text : List ℕ) → old ≡ []
    → text ≡ old ++ json_line (bad_request_json words reason) → IsBadAnswer reason text
is_bad_answer reason words old text empty h = (words, h ∙ ap (λ o. o ++ json_line (bad_request_json words reason)) empty)

pub ruleset requests =
    (request_answered, request_led, request_told, request_halted, request_changed, line_changed, line_answered, line_led, line_told, line_halted)
