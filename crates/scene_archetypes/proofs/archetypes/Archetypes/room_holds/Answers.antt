use Rattle.std.proofs.Common.{Some, subst}
use Rattle.std.proofs.lemmas.Option.{slice_get_within}
use Rattle.scene_archetypes.specs.Archetypes.{ArchetypesState, HoldsRows}
use Rattle.scene_archetypes.proofs.archetypes.Archetypes.room_holds.Goals as goal

pub returns : goal.returns
returns c =
    let a = c.self.inside in
    subst (λ (s : ArchetypesState). HoldsRows s.rooms s.homes s.tables) c.self.view_is
    (record { rows = c.room_holds.ensures; homes = λ h row at. slice_get_within a.homes.items row.entity.index (Some h) (c.self.invariant.kept h row at) })
