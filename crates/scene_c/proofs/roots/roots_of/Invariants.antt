use Rattle.std.proofs.Common.{◌≡◌, take}
use Rattle.std.specs.List.{filter}
use Rattle.scene_c.specs.Reads.{is_root, slot_entities}
use Rattle.scene_c.proofs.roots.roots_of.Given as goal

abbrev pub invariant-slots : goal.invariant-slots
invariant-slots l = l.roots.items ≡ filter (is_root l.fn.world.world) (take l.index (slot_entities 0 l.fn.world.world.slots.generations))
