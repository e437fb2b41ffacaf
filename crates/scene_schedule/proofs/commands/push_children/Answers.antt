use Rattle.std.proofs.Common.{[], ◌∷◌, ◌++◌, ap, sym, ◌∙◌, arith}
use Rattle.scene_commands.specs.declared.command.Command.TheVariants.{Spawn, SetParent}
use Rattle.scene_commands.specs.declared.target.Target.TheVariants.{Id, New}
use Rattle.scene_pass.specs.declared.row_change.RowChange.{RowChange}
use Rattle.scene_queue.specs.Queue.{spawns}
use Rattle.scene_schedule.proofs.QueueWalks.{children_step}
use Rattle.scene_schedule.proofs.commands.push_children.Goals as goal

pub changes-preserved : goal.changes-preserved
changes-preserved c =
    let old = c.changes.queue.commands in
    children_step old _ c.args.cells.now c.args.changes.now c.changes.at c.index-changes-at.result _ (omega (arith, c.changes-test.true)) c.index-changes-at.is
    (c.in_ok-push_child.ensures.put ∙ ap (λ (x : RowChange). old ++ Spawn c.args.cells.now ∷ SetParent (New (spawns old)) (Id x.entity) ∷ []) (sym c.index-changes-at.is))
    c.changes.invariant
