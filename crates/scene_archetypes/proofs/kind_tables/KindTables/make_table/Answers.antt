use Rattle.std.proofs.Common.{sym, subst, []}
use Rattle.scene_archetypes.specs.KindTables.{IsKnown, StandsAt, NoneHas}
use Rattle.scene_archetypes.proofs.Rooms.{first_known, known_stands}
use Rattle.scene_archetypes.proofs.kind_tables.KindTables.make_table.Goals as goal

pub add_table-requires-clause-absent : goal.add_table-requires-clause-absent
add_table-requires-clause-absent c = subst (NoneHas c.args.mask) c.as_slice.ensures.value c.in-None.ensures.none

pub returns-in-Some-clause-known : goal.returns-in-Some-clause-known
returns-in-Some-clause-known c =
    let stands = subst (λ ts. StandsAt ts c.args.mask c.in-Some.field-0) c.as_slice.ensures.value c.in-Some.ensures.some in
    subst (λ t. IsKnown t.rooms c.args.mask) c.self.view_is (first_known c.self.inside.tables.items c.args.mask c.in-Some.field-0 (record { mask = 0; rows = []; capacity = 0 }) stands.first)

pub returns-in-None-clause-there : goal.returns-in-None-clause-there
returns-in-None-clause-there c = λ known.
    absurd (known_stands c.args.mask c.self.inside.tables.items (subst (λ t. IsKnown t.rooms c.args.mask) (sym c.self.view_is) known) (subst (NoneHas c.args.mask) c.as_slice.ensures.value c.in-None.ensures.none))
