use Rattle.scene_model.proofs.DespawnEach.{IsUnderWay}
use Rattle.scene_world.specs.Room.{IsWider}
use Rattle.scene_world.proofs.world.World.despawn_recursive.Given as goal

abbrev pub invariant-loop-next : goal.invariant-loop-next
invariant-loop-next l = IsUnderWay l.initial.self.world l.self.world l.next-items l.next-index × IsWider l.initial.self.room l.self.room
