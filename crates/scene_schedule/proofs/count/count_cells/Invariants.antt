use Rattle.std.proofs.Common.{◌≡◌, ◌^◌, ◌-◌, length, take}
use Rattle.std.specs.Prelude.{min}
use Rattle.std.specs.List.{flat_map}
use Rattle.scene_schedule.specs.Systems.{writes_of}
use Rattle.scene_schedule.proofs.count.count_cells.Given as goal

-- the cells of the rows of the systems so far
abbrev pub invariant-loop-changes : goal.invariant-loop-changes
invariant-loop-changes l = l.count ≡ min (length (flat_map writes_of (take l.changes-index l.rows))) (2 ^ 64 - 1)
