-- A shell says what a run says.
use Rattle.std.proofs.Common.{◌≡◌, ℕ, ◌+◌, List, [], ◌∷◌, ◌++◌, Option, Some, None, is_some, option_map, if◌then◌else◌, length, arith, refl, ap, ◌∙◌}
use Rattle.std.proofs.lemmas.List.{length-append}
use Rattle.std.specs.Str.Lines.{lines}
use Rattle.scene_script.specs.declared.bad_line.BadLine.{BadLine}
use Rattle.scene_interpreter.specs.Printed.{bad_lines, output, printed_from, reports_at}
use Rattle.scene_interpreter.specs.Interpreter.{Interpreter, first_interpreter, lone_interpreter, interpreter_reply}
use Rattle.scene_shell.specs.Shell.{IsSaid, NoRequests, bad_count, plain_style, said_of}
use Rattle.scene_shell.specs.declared.bad_shell_line.BadShellLine.TheVariants as why
use Rattle.scene_shell.specs.ShellLine.{ShellReply, shell_reply}
use Rattle.scene_shell.proofs.Requests.{reply_to_line}
use Rattle.scene_shell.proofs.SaidLaws.{said_plainly}

-- the answers to lines are what a run of them prints; no text says the number of a line
said_printed : (p : Interpreter) (number : ℕ) (ls : List (List ℕ)) → said_of p ls ≡ (printed_from number p ls).text
said_printed p number [] = refl
said_printed p number (l ∷ ls) = ap (λ t. (interpreter_reply p l).text ++ t) (said_printed (interpreter_reply p l).interpreter (number + 1) ls)

-- a line has one report where it is bad
one_report : (number : ℕ) (reason : Option BadLine) → (if is_some (option_map why.Line reason) then 1 else 0) ≡ length (reports_at number reason)
one_report number None = refl
one_report number (Some reason) = refl

-- and as many are bad
counted_printed : (p : Interpreter) (number : ℕ) (ls : List (List ℕ)) → NoRequests ls → bad_count p ls ≡ length (printed_from number p ls).bad
counted_printed p number [] none = refl
counted_printed p number (l ∷ ls) none =
    let r = interpreter_reply p l in
    let is = reply_to_line p l none.0 in
    let rest = printed_from (number + 1) r.interpreter ls in
    let all : length (reports_at number r.bad ++ rest.bad) ≡ length (reports_at number r.bad) + length rest.bad = length-append (reports_at number r.bad) rest.bad in
    let one : (if is_some (shell_reply p l).bad then 1 else 0) ≡ length (reports_at number r.bad) =
    ap (λ (q : ShellReply). if is_some q.bad then 1 else 0) is ∙ one_report number r.bad in
    let others : bad_count (shell_reply p l).interpreter ls ≡ length rest.bad =
    ap (λ (q : ShellReply). bad_count q.interpreter ls) is ∙ counted_printed r.interpreter (number + 1) ls none.1 in
    omega (arith, all, one, others)

-- an interpreter with the settings of a run is the first one of a run
first_is : lone_interpreter 1048576 1048576 ≡ first_interpreter
first_is = refl

-- so it is of a script, from its first line on
pub said_is_output : (script text : List ℕ) → NoRequests (lines script) → IsSaid plain_style (lone_interpreter 1048576 1048576) (lines script) text → text ≡ output script
said_is_output script text none said =
    said_plainly (lone_interpreter 1048576 1048576) (lines script) text none said ∙ ap (λ p. said_of p (lines script)) first_is ∙ said_printed first_interpreter 1 (lines script)

pub counted_bad : (script : List ℕ) → NoRequests (lines script) → bad_count (lone_interpreter 1048576 1048576) (lines script) ≡ length (bad_lines script)
counted_bad script none = ap (λ p. bad_count p (lines script)) first_is ∙ counted_printed first_interpreter 1 (lines script) none
