use Rattle.std.proofs.Common.{◌≡◌, ◌∙◌, ap, sym, subst, Some, arith}
use Rattle.std.specs.Prelude.{option_map, slice_set}
use Rattle.std.specs.Option.{unwrap_or}
use Rattle.scene_kinds.specs.declared.cells.Row.{Row}
use Rattle.scene_kinds.specs.Cells.{cell_of}
use Rattle.scene_table.specs.Table.{row_with_cell}
use Rattle.scene_table.specs.Tables.{rows_at, with_rows, with_row_at}
use Rattle.scene_archetypes.proofs.RowKinds.{cell_in}
use Rattle.scene_model.specs.World.{World, IsHomeOf}
use Rattle.scene_model.specs.Raw.{listed_cells, cells_of, set_cell}
use Rattle.scene_model.proofs.CanParts.{good_cell, set_cell as cell_decides}
use Rattle.scene_model.specs.Valid.{IsValid}
use Rattle.scene_model.proofs.CellBack.{cells_come_back}
use Rattle.scene_model.proofs.MoveKeeps.{with_tables}
use Rattle.scene_model.proofs.RowOf.{made_by_row}
use Rattle.scene_world.specs.Stored.{world_of}
use Rattle.scene_world.proofs.Room.{seen_world, inside_tested}
use Rattle.scene_world.proofs.world.raw.WorldRawChanges.set_cell.Goals as goal

pub invariant_of-self : goal.invariant_of-self
invariant_of-self c =
    let w = c.self.inside in
    let old : World = world_of w.schema w.slots w.tick w.tables.tables w.links.forest w.resources in
    let h = c.home_of_live-home.result in
    let home : IsHomeOf old c.args.entity h = subst (λ (v : World). IsHomeOf v c.args.entity h) (sym (seen_world c.self.view_is)) c.home_of_live-home.ensures.row in
    let good = inside_tested c.self.view_is (λ v. good_cell v c.args.kind c.args.cell) c.requires.good in
    let rows = rows_at w.tables.tables h.mask in
    let now : cell_of (cells_of old c.args.entity) c.args.kind ≡ Some c.set_cell.result =
    ap (λ o. cell_of (listed_cells o) c.args.kind) home.found ∙ sym (cell_in rows h.place c.args.kind home.row home.there) ∙ c.set_cell.ensures.old in
    let is : set_cell old c.args.entity c.args.kind c.args.cell ≡ with_tables old c.set_cell.new.self.tables =
    made_by_row old c.args.entity h home.row (λ g row. with_tables old (with_row_at w.tables.tables g (row_with_cell row c.args.kind c.args.cell))) home.found
    ∙ ap (with_tables old) (sym (c.set_cell.ensures.tables ∙ ap (λ o. with_rows w.tables.tables h.mask (unwrap_or (option_map (λ (row : Row). slice_set rows h.place (row_with_cell row c.args.kind c.args.cell)) o) rows)) home.there)) in
    record {
      valid = subst IsValid is ((cells_come_back c.args.entity c.args.kind c.set_cell.result c.args.cell).keeps old c.self.invariant.valid ((cell_decides old c.args.entity c.args.kind c.set_cell.result c.args.cell).1 (record { now = now; good = good })));
      homes = omega (arith, c.set_cell.ensures.homes, c.self.invariant.homes);
    }
