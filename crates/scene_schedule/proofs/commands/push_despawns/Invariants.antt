use Rattle.std.proofs.Common.{◌≡◌, ◌++◌, drop}
use Rattle.scene_schedule.specs.AtOnce.{despawns_after}
use Rattle.scene_schedule.proofs.commands.push_despawns.Given as goal

abbrev pub invariant-changes : goal.invariant-changes
invariant-changes l =
    l.queue.commands ++ despawns_after l.world.world l.kind (drop l.at l.changes) ≡ l.initial.queue.commands ++ despawns_after l.world.world l.kind l.changes
