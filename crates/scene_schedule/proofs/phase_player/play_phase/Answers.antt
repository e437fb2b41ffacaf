use Rattle.scene_schedule.proofs.Phases.{phase_kept}
use Rattle.scene_schedule.proofs.phase_player.play_phase.Goals as goal

pub returns-in-Ok-clause-schema : goal.returns-in-Ok-clause-schema
returns-in-Ok-clause-schema g c =
    phase_kept g.S.Stage.note c.args.rules.now (g.S.Stage.seen c.args.stage.now) (g.S.Stage.seen c.play_systems.new.stage) c.in-Ok.spawned.items c.in-Ok.ensures.played
