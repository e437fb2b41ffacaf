use Rattle.std.proofs.Common.{◌∙◌, ap, sym, subst, refl}
use Rattle.std.specs.Prelude.{option_map}
use Rattle.scene_kinds.specs.declared.cells.Row.{Row}
use Rattle.std.specs.Prelude.{slice_set}
use Rattle.std.specs.Option.{unwrap_or}
use Rattle.scene_table.specs.Table.{row_with_cell}
use Rattle.scene_table.specs.Tables.{rows_at, with_rows}
use Rattle.scene_archetypes.specs.KindTables.{IsWithin}
use Rattle.scene_archetypes.specs.Archetypes.{AreHomes}
use Rattle.scene_archetypes.proofs.RowKinds.{row_there}
use Rattle.scene_archetypes.proofs.WrittenHomes.{written_homes}
use Rattle.scene_archetypes.proofs.archetypes.Archetypes.set_cell.Goals as goal

pub invariant_of-self : goal.invariant_of-self
invariant_of-self c =
    let t = c.self.inside.tables.tables in
    let rows = rows_at t c.args.home.mask in
    let there = row_there t c.args.home (subst (λ a. IsWithin a.tables c.args.home) (sym c.self.view_is) c.requires.within) in
    let same = c.set_cell.ensures.tables ∙ ap (λ o. with_rows t c.args.home.mask (unwrap_or (option_map (λ (row : Row). slice_set (rows_at t c.args.home.mask) c.args.home.place (row_with_cell row c.args.kind c.args.cell)) o) (rows_at t c.args.home.mask))) there.1 in
    subst (λ u. AreHomes u c.self.inside.homes.items) (sym same) (written_homes t c.self.inside.homes.items c.args.home there.0 (row_with_cell there.0 c.args.kind c.args.cell) c.self.invariant there.1 refl)
