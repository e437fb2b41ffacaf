use Rattle.std.proofs.Common.{◌≡◌, ◌++◌, drop}
use Rattle.scene_schedule.specs.Systems.{despawns}
use Rattle.scene_schedule.proofs.queued.push_despawns_in.Given as goal

abbrev pub invariant-rows : goal.invariant-rows
invariant-rows l = l.queue.commands ++ despawns l.kind (drop l.at l.table.rows) ≡ l.initial.queue.commands ++ despawns l.kind l.table.rows
