-- What a shell says of lines.
use Rattle.std.proofs.Common.{sym, Bool, IfOk, OnOk, Result, Ok, Err, ◌≡◌, ℕ, List, [], ◌∷◌, ◌++◌, true, false, Option, refl, ap, subst, ◌∙◌, append-nil}
use Rattle.scene_script.specs.declared.bad_line.BadLine.{BadLine}
use Rattle.scene_script.specs.Script.{line_in}
use Rattle.scene_interpreter.specs.JsonLine.{IsAnsweredAsJson, AddsJson, asked_by}
use Rattle.scene_interpreter.specs.Interpreter.{Interpreter, interpreter_kinds, interpreter_reply}
use Rattle.scene_shell.specs.Shell.{IsSaid, NoRequests, plain_style, said_of}
use Rattle.scene_shell.specs.ShellLine.{IsAnswerBy, IsLineAnswer, ShellReply, shell_reply}
use Rattle.scene_shell.proofs.Requests.{reply_to_line}

-- the answers of a script that aren't framed are those, one after another, where none of its lines is a request
pub said_plainly : (p : Interpreter) (ls : List (List ℕ)) (text : List ℕ) → NoRequests ls → IsSaid plain_style p ls text → text ≡ said_of p ls
said_plainly p [] text none said = said
said_plainly p (l ∷ ls) text none said =
    let r = interpreter_reply p l in
    let next : (shell_reply p l).interpreter ≡ r.interpreter = ap (λ (q : ShellReply). q.interpreter) (reply_to_line p l none.0) in
    let answered : IsLineAnswer false p l said.2.0 = subst (λ b. IsAnswerBy b false p l said.2.0) none.0 said.2.1 in
    let first : said.0 ≡ r.text = said.2.2 ∙ append-nil said.2.0 ∙ answered in
    said.4 ∙ ap (λ t. t ++ said.1) first
    ∙ ap (λ t. r.text ++ t) (said_plainly r.interpreter ls said.1 none.1 (subst (λ q. IsSaid plain_style q ls said.1) next said.3))

-- an answer to a line that is JSON
pub is_json_answer : (p after : Interpreter) (l text : List ℕ) (bad : Option BadLine) → IsAnsweredAsJson [] text p after l bad → IsLineAnswer true p l text
is_json_answer p after l text bad h =
    let said = line_in (interpreter_kinds p) l in
    (refl, refl, subst (λ a. AddsJson [] text p a said (asked_by p said)) h.1 h.2)

-- and where it was given
pub json_said : {E : Type 0} (r : Result (Option BadLine) E) (is_json : Bool) (old text : List ℕ) (p after : Interpreter) (l : List ℕ) → is_json ≡ true → old ≡ []
    → IfOk r (λ bad. IsAnsweredAsJson old text p after l bad) → OnOk r (IsLineAnswer is_json p l text)
json_said (Err e) is_json old text p after l given empty h = tt
json_said (Ok bad) is_json old text p after l given empty h =
    subst (λ b. IsLineAnswer b p l text) (sym given) (is_json_answer p after l text bad (subst (λ o. IsAnsweredAsJson o text p after l bad) empty h))
