use Rattle.std.proofs.Common.{◌≡◌, ◌<◌, ℕ}
use Rattle.std.specs.Prelude.{slice_get}
use Rattle.scene_schedule.proofs.schedule.same_schema.Given as goal

abbrev pub invariant-kinds : goal.invariant-kinds
invariant-kinds l = (k : ℕ) → k < l.kind → slice_get l.a k ≡ slice_get l.b k
