use Rattle.std.proofs.Common.{◌∙◌, subst, sym}
use Rattle.scene_archetypes.specs.Archetypes.{AreHomes}
use Rattle.scene_archetypes.proofs.archetypes.Archetypes.try_clone.Goals as goal

pub invariant_of-result : goal.invariant_of-result
invariant_of-result c =
    subst (λ t. AreHomes t c.in_ok-homes.homes.items) (sym c.in_ok-tables.ensures)
    (subst (AreHomes c.self.inside.tables.tables) (sym (c.in_ok-homes.ensures ∙ c.as_slice.ensures.value)) c.self.invariant)
