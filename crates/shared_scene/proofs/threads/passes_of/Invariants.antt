use Rattle.std.proofs.Common.{All}
use Rattle.std.specs.Prelude.{IfOk, vec_len}
use Rattle.scene_editor.specs.Passes.{IsPassOf}
use Rattle.shared_scene.proofs.threads.passes_of.Given as goal

abbrev pub invariant-loop-outcome : goal.invariant-loop-outcome
invariant-loop-outcome l = All (λ outcome. IfOk outcome (IsPassOf l.lock)) l.outcomes.items × All (IsPassOf l.lock) l.passes.items

abbrev pub decreases-loop-outcome : goal.decreases-loop-outcome
decreases-loop-outcome l = vec_len l.outcomes
