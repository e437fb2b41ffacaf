use Rattle.std.proofs.Common.{◌≡◌, [], take}
use Rattle.scene_machine.specs.Queue.{reached, whole, play}
use Rattle.scene_world.specs.Room.{IsWider}
use Rattle.scene_world.specs.Stage.{act}
use Rattle.scene_schedule.specs.Systems.{writes_of_cells}
use Rattle.scene_schedule.proofs.write.write_cells.Given as goal

-- the cells so far were written
abbrev pub invariant-loop-cell : goal.invariant-loop-cell
invariant-loop-cell g l =
    let s = g.S.Stage in
    (play (act s.note) (writes_of_cells l.entity (take l.cell-index l.cells)) (s.seen l.fn.stage) ≡ whole (reached (s.seen l.stage) []))
    × ((s.opening l.stage ≡ s.opening l.fn.stage) × IsWider (s.room l.fn.stage) (s.room l.stage))
