-- A lock changes no answer.
use Rattle.std.proofs.Common.{◌≡◌, ℕ, List, sym, ap, ◌∙◌}
use Rattle.scene_interpreter.specs.Interpreter.{Interpreter, interpreter_reply}
use Rattle.scene_interpreter.specs.LockAlike.{AnswersAlike}

-- what contracts see of an interpreter is all that its answers depend on
pub answers_alike : (p q : Interpreter) (bytes : List ℕ) → p ≡ q → AnswersAlike p q bytes
answers_alike p q bytes same a b after other tells told =
    let replies = ap (λ r. interpreter_reply r bytes) same in (
      tells.0 ∙ ap (λ r. r.said) replies ∙ sym told.0,
      tells.2 ∙ ap (λ r. r.text) replies ∙ sym told.2,
      tells.3 ∙ ap (λ r. r.bad) replies ∙ sym told.3,
      tells.1 ∙ ap (λ r. r.interpreter) replies ∙ sym told.1,
    )
