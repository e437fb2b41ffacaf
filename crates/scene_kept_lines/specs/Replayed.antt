-- Lines that are played again, and what stops them.
use Rattle.std.specs.Prelude.{⊤, ◌≡◌, ℕ, ◌+◌, ◌-◌, ◌^◌, min, List, ◌∷◌, ◌++◌, Some, None, Result, Ok, Err, length}
use Rattle.scene_interpreter.specs.Interpreter.{Interpreter, halted}
use Rattle.scene_shell.specs.declared.bad_shell_line.BadShellLine.{BadShellLine}
use Rattle.scene_shell.specs.ShellLine.{shell_reply}
use Rattle.scene_shell.specs.Shell.{bad_count, interpreter_after}
use Rattle.scene_kept_lines.specs.declared.line_fault.KeptLineFault.{KeptLineFault}
use Rattle.scene_kept_lines.specs.declared.line_fault.KeptLineFault.TheVariants.{Bad, Halted}

-- none of the lines is bad
abbrev pub NoneIsBad : Interpreter → List (List ℕ) → Type 0
NoneIsBad p ls = bad_count p ls ≡ 0

-- The lines before that of a number, from 1, are played, and none of them is bad; of that line and the interpreter
-- before it this holds.
pub record StopsAt (first : Interpreter) (ls : List (List ℕ)) (number : ℕ) (Holds : Interpreter → List ℕ → Type 0) : Type 0 where
  pub front : List (List ℕ)
  pub line : List ℕ
  pub back : List (List ℕ)
  pub parted : ls ≡ front ++ line ∷ back
  pub counted : number ≡ length front + 1
  pub good : NoneIsBad first front
  pub holds : Holds (interpreter_after first front) line

-- the first bad line of these is that of this number, for this reason
abbrev pub IsFirstBad : Interpreter → List (List ℕ) → ℕ → BadShellLine → Type 0
IsFirstBad first ls number reason = StopsAt first ls number (λ p l. (shell_reply p l).bad ≡ Some reason)

-- where a fault names a bad line, that is the first one
abbrev pub NamesFirst : Interpreter → List (List ℕ) → KeptLineFault → Type 0
NamesFirst first ls (Bad number reason) = IsFirstBad first ls number reason
NamesFirst first ls fault = ⊤

-- what stopped lines before their end, and the interpreter that it left: the first bad line, which was played; or no
-- memory was found for a line, behind lines of which none is bad
abbrev pub StopsBy : (first left : Interpreter) → List (List ℕ) → KeptLineFault → Type 0
StopsBy first left ls (Bad number reason) =
    StopsAt first ls number (λ p l. ((shell_reply p l).bad ≡ Some reason) × (left ≡ (shell_reply p l).interpreter))
StopsBy first left ls (Halted number halt) = StopsAt first ls number (λ p l. left ≡ halted halt p (shell_reply p l).interpreter)
StopsBy first left ls fault = ⊥

-- the fault of lines behind so many others; no number of 64 bits is greater than the greatest
abbrev pub fault_behind : ℕ → KeptLineFault → KeptLineFault
fault_behind skipped (Bad number reason) = Bad (min (number + skipped) (2 ^ 64 - 1)) reason
fault_behind skipped (Halted number halt) = Halted (min (number + skipped) (2 ^ 64 - 1)) halt
fault_behind skipped fault = fault

-- how a line of a number was played: it isn't bad; or it is, for this reason; or no memory was found for it
abbrev pub IsPlayedAs : (old new : Interpreter) → ℕ → List ℕ → Result (Unit {0}) KeptLineFault → Type 0
IsPlayedAs old new number line (Ok p) = (new ≡ (shell_reply old line).interpreter) × ((shell_reply old line).bad ≡ None)
IsPlayedAs old new number line (Err (Bad n reason)) =
    (n ≡ number) × ((shell_reply old line).bad ≡ Some reason) × (new ≡ (shell_reply old line).interpreter)
IsPlayedAs old new number line (Err (Halted n halt)) = (n ≡ number) × (new ≡ halted halt old (shell_reply old line).interpreter)
IsPlayedAs old new number line (Err fault) = ⊥
