-- A spawn that is queued, in an interpreter.
use Rattle.std.proofs.Common.{◌≡◌, ℕ, List, Option, Some, None, Result, refl}
use Rattle.std.specs.Prelude.{IfSome}
use Rattle.scene_kinds.specs.declared.refusal.Refusal.{Refusal}
use Rattle.scene_kinds.specs.declared.value.Value.{Value}
use Rattle.scene_commands.specs.declared.target.Target.{Target}
use Rattle.scene_interpreter.specs.Interpreter.{Interpreter, Playing}
use Rattle.scene_interpreter.specs.Play.{PlayState}
use Rattle.scene_interpreter.specs.WholeFrame.{IsSpawnIn, IsSpawnQueued}

pub queued_in : (before after : PlayState) (p : Interpreter) (cells : List (ℕ × Value)) (result : Option (Result Target Refusal)) → p ≡ Playing before
    → IfSome result (λ queued. IsSpawnIn before after cells queued) → IfSome result (λ queued. IsSpawnQueued p (Playing after) cells queued)
queued_in before after p cells None is queued = tt
queued_in before after p cells (Some result) is queued = record { before = before; after = after; old_is = is; new_is = refl; queued = queued }
