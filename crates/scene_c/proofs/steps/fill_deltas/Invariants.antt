use Rattle.std.proofs.Common.{◌≡◌, ◌≤◌, ◌++◌, length, map, take, drop}
use Rattle.scene_c.specs.Steps.{shown_delta}
use Rattle.scene_c.proofs.steps.fill_deltas.Given as goal

abbrev pub invariant-deltas : goal.invariant-deltas
invariant-deltas l = (l.left ≡ drop l.at l.fn.deltas) × (l.at ≤ length l.fn.deltas)
    × (l.room ≡ take l.at (map shown_delta l.fn.deltas) ++ drop l.at l.fn.room)
