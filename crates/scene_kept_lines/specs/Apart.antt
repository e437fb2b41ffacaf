-- Lines of a shell that are given to two interpreters which are the same in all but which calls there were.
use Rattle.std.specs.Prelude.{◌≡◌, ℕ, List, Option, Result}
use Rattle.scene_interpreter.specs.Apart.{SameApart}
use Rattle.scene_interpreter.specs.Interpreter.{Interpreter}
use Rattle.scene_shell.specs.declared.kept_fault.KeptFault.{KeptFault}
use Rattle.scene_shell.specs.Kept.{Beginning, EndsAs, Meaning, kept_of}
use Rattle.scene_shell.specs.declared.style.AnswerStyle.{AnswerStyle}
use Rattle.scene_shell.specs.Shell.{IsSaid, bad_count, interpreter_after}

-- As many of the lines are bad for both, what answers them is said by both, the same of them is to be kept, and behind
-- them the interpreters are the same again, history apart.
pub record LinesApart (p q : Interpreter) (ls : List (List ℕ)) : Type 0 where
  pub bad : bad_count p ls ≡ bad_count q ls
  pub answers : (style : AnswerStyle) (text : List ℕ) → IsSaid style p ls text → IsSaid style q ls text
  pub kept : kept_of p ls ≡ kept_of q ls
  pub interpreter : SameApart (interpreter_after p ls) (interpreter_after q ls)

-- how a shell ends that went on with an interpreter, it ends with each that is the same, history apart
abbrev pub EndsApart : {K F : Type 0} → Meaning K → Beginning K → (now : K) → (rest : Option (List ℕ)) → Result ℕ (KeptFault F) → Type 0
EndsApart m shell now rest r = (q : Interpreter) → SameApart shell.first q → EndsAs m (record shell { first = q }) now rest r
