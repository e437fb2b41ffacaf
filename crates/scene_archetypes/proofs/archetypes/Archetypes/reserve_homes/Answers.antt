use Rattle.scene_archetypes.proofs.WrittenHomes.{same_homes}
use Rattle.scene_archetypes.proofs.archetypes.Archetypes.reserve_homes.Goals as goal

pub invariant_of-self : goal.invariant_of-self
invariant_of-self c = same_homes c.self.inside.tables.tables c.self.inside.homes.items c.grow_homes.new.homes.items c.self.invariant c.grow_homes.ensures.same
