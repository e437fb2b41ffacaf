use Rattle.std.proofs.Common.{◌≡◌, ◌++◌, drop}
use Rattle.std.specs.Prelude.{All}
use Rattle.scene_schedule.specs.Systems.{row_steps}
use Rattle.scene_schedule.specs.TableWrites.{AddsInRange}
use Rattle.scene_schedule.proofs.systems.row_steps.Given as goal

abbrev pub invariant-steps : goal.invariant-steps
invariant-steps l = record { all : l.list.items ++ row_steps (drop l.at l.steps) ≡ row_steps l.steps; range : All AddsInRange l.list.items }
