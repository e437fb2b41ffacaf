use Rattle.std.proofs.Common.{arith}
use Rattle.scene_schedule.proofs.Outputs.{phase_made, phase_refused}
use Rattle.scene_schedule.proofs.workers.gathered.Goals as goal

pub returns-in-Err-clause-refused : goal.returns-in-Err-clause-refused
returns-in-Err-clause-refused g c = λ named.
    phase_refused c.args.world.now.world c.args.rules.now c.systems.at c.index-rules-at.result c.in-Err.refusal c.systems.invariant.valid c.requires.sound
    (omega (arith, c.systems-test.true)) c.index-rules-at.is c.systems.invariant.over (c.in-Err.ensures.refused named)

pub returns-clause-output : goal.returns-clause-output
returns-clause-output g c =
    phase_made (record { rows = c.systems.rows; queues = c.systems.queues }) c.args.world.now.world c.args.rules.now c.systems.at c.systems.invariant.valid c.requires.sound
    c.systems-test.false c.systems.invariant.over c.systems.invariant.rows c.systems.invariant.queues
