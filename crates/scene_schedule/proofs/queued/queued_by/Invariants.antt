use Rattle.std.proofs.Common.{◌≡◌, ◌++◌, drop}
use Rattle.scene_queue.specs.Queue.{spawns}
use Rattle.scene_pass.specs.Pass.{matching_rows}
use Rattle.scene_schedule.specs.Systems.{commands_from, queued_by}
use Rattle.scene_schedule.proofs.queued.queued_by.Given as goal

abbrev pub invariant-steps : goal.invariant-steps
invariant-steps l =
    l.queue.commands ++ commands_from (spawns l.queue.commands) (drop l.at l.rule.steps) (matching_rows l.world.world l.rule.filter) ≡ queued_by l.world.world l.rule
