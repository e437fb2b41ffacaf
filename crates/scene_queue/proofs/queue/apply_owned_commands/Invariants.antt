use Rattle.std.proofs.Common.{◌≡◌, length, take}
use Rattle.scene_machine.specs.Queue.{reached, whole, play}
use Rattle.scene_world.specs.Room.{IsWider}
use Rattle.scene_world.specs.Stage.{act}
use Rattle.scene_queue.specs.Requests.{requests}
use Rattle.scene_queue.proofs.queue.apply_owned_commands.Given as goal

-- the commands so far were done, and spawned these entities
abbrev pub invariant-loop-command : goal.invariant-loop-command
invariant-loop-command g l =
    let s = g.S.Stage in
    (l.at ≡ length l.yielded)
    × ((play (act s.note) (requests (take (length l.yielded) l.fn.commands.items)) (s.seen l.fn.stage) ≡ whole (reached (s.seen l.stage) l.spawned.items))
    × ((s.opening l.stage ≡ s.opening l.fn.stage) × IsWider (s.room l.fn.stage) (s.room l.stage)))
