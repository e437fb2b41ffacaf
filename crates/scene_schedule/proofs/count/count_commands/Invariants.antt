use Rattle.std.proofs.Common.{◌≡◌, ◌^◌, ◌-◌, length, take}
use Rattle.std.specs.Prelude.{min}
use Rattle.std.specs.List.{flat_map}
use Rattle.scene_schedule.proofs.count.count_commands.Given as goal

-- the commands of the queues so far
abbrev pub invariant-loop-queue : goal.invariant-loop-queue
invariant-loop-queue l = l.count ≡ min (length (flat_map (λ q. q.commands) (take l.queue-index l.queues))) (2 ^ 64 - 1)
