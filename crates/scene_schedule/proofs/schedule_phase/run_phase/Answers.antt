use Rattle.std.proofs.Common.{◌≡◌, get_or, sym, subst}
use Rattle.scene_schedule.proofs.Phases.{sound_at}
use Rattle.scene_schedule.proofs.schedule_phase.run_phase.Goals as goal

pub run_systems-requires-clause-sound : goal.run_systems-requires-clause-sound
run_systems-requires-clause-sound g c κs within =
    let item = subst (λ phases. c.index-phases-phase.result ≡ get_or phases c.args.phase c.index-phases-phase.result) c.phases-phases.ensures.list c.index-phases-phase.is in
    let here = subst (λ rules. rules ≡ get_or c.args.schedule.now.phases c.args.phase rules) (sym c.systems.ensures) item in
    sound_at c.args.schedule.now c.phases-phases.ensures.sound c.args.phase c.systems.result.now c.args.world.now.world.schema c.requires.phase here c.requires.kinds
