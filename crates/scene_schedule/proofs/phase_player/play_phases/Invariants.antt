use Rattle.std.proofs.Common.{◌≡◌, drop}
use Rattle.scene_world.specs.Room.{IsWider}
use Rattle.scene_world.specs.Stage.{act}
use Rattle.scene_schedule.specs.Systems.{phases_from}
use Rattle.scene_schedule.proofs.Phases.{joined}
use Rattle.scene_schedule.proofs.phase_player.play_phases.Given as goal

-- what is left to do, after what was spawned so far, is all that there was to do
abbrev pub invariant-phases : goal.invariant-phases
invariant-phases g l =
    let s = g.S.Stage in
    (l.at ≡ l.phase-index)
    × (((s.seen l.stage).world.schema ≡ l.schedule.schema)
    × ((joined l.spawned.items (phases_from (act s.note) (λ t. t.world) l.phase-index (drop l.phase-index l.schedule.phases) (s.seen l.stage))
    ≡ phases_from (act s.note) (λ t. t.world) 0 l.schedule.phases (s.seen l.fn.stage))
    × ((s.opening l.stage ≡ s.opening l.fn.stage) × IsWider (s.room l.fn.stage) (s.room l.stage))))
