use Rattle.std.proofs.Common.{◌≡◌, [], Ok, map, take}
use Rattle.scene_machine.specs.Frame.{queues_from}
use Rattle.scene_world.specs.Room.{IsWider}
use Rattle.scene_world.specs.Stage.{act}
use Rattle.scene_schedule.specs.Systems.{writes_of}
use Rattle.scene_schedule.proofs.write.write_systems.Given as goal

-- the rows of the systems so far were written
abbrev pub invariant-loop-changes : goal.invariant-loop-changes
invariant-loop-changes g l =
    let s = g.S.Stage in
    (queues_from (act s.note) 0 (map writes_of (take l.changes-index l.rows)) (s.seen l.fn.stage) ≡ Ok ([], s.seen l.stage))
    × ((s.opening l.stage ≡ s.opening l.fn.stage) × IsWider (s.room l.fn.stage) (s.room l.stage))
