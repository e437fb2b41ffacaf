use Rattle.std.proofs.Common.{◌≡◌, take}
use Rattle.scene_systems.proofs.phase.clone_systems.Given as goal

abbrev pub invariant-loop-system : goal.invariant-loop-system
invariant-loop-system l = l.copies.items ≡ take l.system-index l.systems
