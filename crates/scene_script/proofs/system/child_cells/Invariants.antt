use Rattle.std.proofs.Common.{◌≡◌, ◌++◌, drop, map, Ok}
use Rattle.scene_script.specs.Reading.{◌>>=◌}
use Rattle.scene_script.specs.Systems.{child_cells}
use Rattle.scene_script.proofs.system.child_cells.Given as goal

abbrev pub invariant-loop-cell : goal.invariant-loop-cell
invariant-loop-cell l =
    (child_cells l.schema l.word (map (λ c. c.now) (drop l.cell-index l.cells)) >>= (λ cs. Ok (l.read.items ++ cs)))
    ≡ child_cells l.schema l.word (map (λ c. c.now) l.cells)
