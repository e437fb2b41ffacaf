use Rattle.std.proofs.Common.{◌≡◌, ◌^◌, ◌-◌, length, take}
use Rattle.std.specs.Prelude.{min}
use Rattle.scene_schedule.specs.Systems.{writes_of}
use Rattle.scene_schedule.proofs.count.count_rows.Given as goal

-- the cells of the rows so far
abbrev pub invariant-loop-row : goal.invariant-loop-row
invariant-loop-row l = l.count ≡ min (length (writes_of (take l.row-index l.rows))) (2 ^ 64 - 1)
