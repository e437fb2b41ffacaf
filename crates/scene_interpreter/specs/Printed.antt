-- A script as a function of its lines: what an interpreter says to each of them, and the bad ones with their reasons.
use Rattle.std.specs.Prelude.{ℕ, ◌+◌, List, [], ◌∷◌, ◌++◌, Option, Some, None}
use Rattle.std.specs.Str.Lines.{lines}
use Rattle.scene_session.specs.Owner.{OwnerState}
use Rattle.scene_script.specs.declared.bad_line.BadLine.{BadLine}
use Rattle.scene_interpreter.specs.Interpreter.{Interpreter, LineReply, first_interpreter, owner_of, interpreter_reply}
use Rattle.scene_interpreter.specs.declared.bad_line_report.BadLineReport.{BadLineReport}

-- what lines print, their bad ones, each by its number from 1, with the reason, and the owner at their end
pub record Printed : Type 0 where
  pub text : List ℕ
  pub bad : List BadLineReport
  pub owner : OwnerState

-- the report of a line of this number, where it is bad
abbrev pub reports_at : ℕ → Option BadLine → List BadLineReport
reports_at number None = []
reports_at number (Some reason) = record { line = number; reason = reason } ∷ []

-- what a reply adds before the rest, which goes on from its interpreter
abbrev pub then_rest : ℕ → LineReply → (Interpreter → Printed) → Printed
then_rest number r rest = record {
  text = r.text ++ (rest r.interpreter).text;
  bad = reports_at number r.bad ++ (rest r.interpreter).bad;
  owner = (rest r.interpreter).owner;
}

-- the lines one after another, the first of this number
abbrev pub printed_from : ℕ → Interpreter → List (List ℕ) → Printed
printed_from number p [] = record { text = []; bad = []; owner = owner_of p }
printed_from number p (l ∷ ls) = then_rest number (interpreter_reply p l) (λ q. printed_from (number + 1) q ls)

-- all of a script, from its first line
abbrev pub printed : List ℕ → Printed
printed script = printed_from 1 first_interpreter (lines script)

-- what a script prints
abbrev pub output : List ℕ → List ℕ
output script = (printed script).text

-- its bad lines, first to last
abbrev pub bad_lines : List ℕ → List BadLineReport
bad_lines script = (printed script).bad

-- the owner that it leaves: the calls of all its sessions, with their answers
abbrev pub owner_after : List ℕ → OwnerState
owner_after script = (printed script).owner
