use Rattle.std.proofs.Common.{◌∙◌, ap, sym, subst, length}
use Rattle.scene_table.specs.Tables.{rows_at}
use Rattle.scene_archetypes.specs.KindTables.{NoneHas}
use Rattle.scene_archetypes.proofs.Stored.{none_seen}
use Rattle.scene_archetypes.proofs.Rooms.{there}
use Rattle.scene_archetypes.proofs.kind_tables.KindTables.len.Goals as goal

pub returns-in-Some : goal.returns-in-Some
returns-in-Some c =
    c.len.ensures.count ∙ sym (ap length (there c.self.inside.tables.items c.as_slice.result.now c.args.self.now c.args.mask c.in-Some.at c.index.result.now c.self.view_is c.as_slice.ensures.value c.in-Some.ensures.some c.index.ensures).rows)

pub returns-in-None : goal.returns-in-None
returns-in-None c =
    sym (ap length (sym (ap (λ t. rows_at t.tables c.args.mask) c.self.view_is) ∙ none_seen c.args.mask c.self.inside.tables.items (subst (NoneHas c.args.mask) c.as_slice.ensures.value c.in-None.ensures.none)))
