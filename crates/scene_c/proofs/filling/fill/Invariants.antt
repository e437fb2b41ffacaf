use Rattle.std.proofs.Common.{◌≡◌, ◌++◌, map, take, drop}
use Rattle.scene_c.proofs.filling.fill.Given as goal

abbrev pub invariant-loop-at : goal.invariant-loop-at
invariant-loop-at g l = l.room ≡ take l.at (map g.S.ShownAs.shown l.rest) ++ drop l.at l.fn.room
