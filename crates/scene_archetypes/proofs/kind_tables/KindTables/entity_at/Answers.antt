use Rattle.std.proofs.Common.{◌∙◌, ap, sym, subst, List}
use Rattle.std.specs.Prelude.{option_map, slice_get}
use Rattle.std.proofs.lemmas.Option.{slice_get-map}
use Rattle.scene_kinds.specs.declared.entity.Entity.{Entity}
use Rattle.scene_kinds.specs.declared.cells.Row.{Row}
use Rattle.scene_table.specs.Tables.{rows_at}
use Rattle.scene_archetypes.specs.KindTables.{NoneHas}
use Rattle.scene_archetypes.proofs.Stored.{none_seen}
use Rattle.scene_archetypes.proofs.Rooms.{there}
use Rattle.scene_archetypes.proofs.kind_tables.KindTables.entity_at.Goals as goal

pub returns-in_err-at : goal.returns-in_err-at
returns-in_err-at c =
    let none = none_seen c.args.home.mask c.self.inside.tables.items (subst (NoneHas c.args.home.mask) c.as_slice.ensures.value c.in_err-at.ensures.none) in
    c.from_residual.ensures ∙ sym (ap (λ rows. option_map (λ (row : Row). row.entity) (slice_get rows c.args.home.place)) (sym (ap (λ t. rows_at t.tables c.args.home.mask) c.self.view_is) ∙ none))

pub returns : goal.returns
returns c =
    let rows = (there c.self.inside.tables.items c.as_slice.result.now c.args.self.now c.args.home.mask c.in_ok-at.at c.index.result.now c.self.view_is c.as_slice.ensures.value c.in_ok-at.ensures.some c.index.ensures).rows in
    c.entity_in.ensures ∙ ap (λ (es : List Entity). slice_get es c.args.home.place) c.entities.ensures ∙ slice_get-map (λ (row : Row). row.entity) c.index.result.now.rows c.args.home.place
    ∙ sym (ap (λ rs. option_map (λ (row : Row). row.entity) (slice_get rs c.args.home.place)) rows)
