use Rattle.std.proofs.Common.{◌≡◌, ℕ, take, ◌&&◌, nat_lt}
use Rattle.scene_kinds.specs.KindSet.{has_kind}
use Rattle.scene_table.specs.Runs.{is_read}
use Rattle.scene_table.proofs.run.read_by.Given as goal

abbrev pub invariant-loop-step : goal.invariant-loop-step
invariant-loop-step l = (k : ℕ) → has_kind l.kinds k ≡ (is_read (take l.step-index l.steps) k && nat_lt k 64)
