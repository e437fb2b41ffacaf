use Rattle.std.proofs.Common.{◌≡◌, length, take, Ok}
use Rattle.scene_machine.specs.Frame.{queues_from}
use Rattle.scene_world.specs.Room.{IsWider}
use Rattle.scene_world.specs.Stage.{act}
use Rattle.scene_queue.specs.Frames.{frame_of}
use Rattle.scene_queue.proofs.queue.apply_owned.Given as goal

-- the queues so far were applied, and spawned these entities
abbrev pub invariant-loop-queue : goal.invariant-loop-queue
invariant-loop-queue g l =
    let s = g.S.Stage in
    (l.at ≡ length l.yielded)
    × ((queues_from (act s.note) 0 (frame_of (take (length l.yielded) l.fn.queues.items)) (s.seen l.fn.stage) ≡ Ok (l.spawned.items, s.seen l.stage))
    × ((s.opening l.stage ≡ s.opening l.fn.stage) × IsWider (s.room l.fn.stage) (s.room l.stage)))
