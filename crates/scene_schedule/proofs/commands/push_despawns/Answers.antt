use Rattle.std.proofs.Common.{◌++◌, ap, sym, ◌∙◌, arith}
use Rattle.scene_schedule.proofs.QueueWalks.{pushed_on, despawns_step}
use Rattle.scene_schedule.proofs.commands.push_despawns.Goals as goal

pub changes-preserved : goal.changes-preserved
changes-preserved c =
    let old = c.changes.queue.commands in
    pushed_on old _ _ _ _ c.in_ok-push_despawn.ensures.put
    (ap (λ cs. old ++ cs) (sym (despawns_step c.args.world.now.world c.args.kind c.args.changes.now c.changes.at c.index-changes-at.result (omega (arith, c.changes-test.true)) c.index-changes-at.is))
    ∙ c.changes.invariant)
