-- A cell that is set keeps a valid world valid and comes back.
use Rattle.std.proofs.Common.{◌≡◌, ℕ, zero, suc, List, [], ◌∷◌, refl, ap, subst, sym, ◌∙◌, Some}
use Rattle.std.specs.Prelude.{slice_get, slice_set}
use Rattle.std.specs.Cmp.{nat_cmp_total}
use Rattle.std.specs.FinMap.{nat_cmp-IsAntisymmetric}
use Rattle.scene_kinds.specs.declared.entity.Entity.{Entity}
use Rattle.scene_kinds.specs.declared.cell.Cell.{Cell}
use Rattle.scene_kinds.specs.declared.cells.Row.{Row}
use Rattle.scene_kinds.specs.Cells.{cell_of}
use Rattle.scene_kinds.proofs.Elements.{written_there}
use Rattle.scene_kinds.proofs.Lists.{list_at_same, list_restored}
use Rattle.scene_kinds.proofs.Masks.{mask-with_cell_there}
use Rattle.scene_table.specs.Table.{row_with_cell}
use Rattle.scene_table.specs.declared.home.Home.{Home}
use Rattle.scene_model.specs.World.{World, row_of}
use Rattle.scene_table.specs.Tables.{Tables, rows_at, row_at, with_row_at, row_for}
use Rattle.scene_model.specs.Valid.{IsValid}
use Rattle.scene_model.specs.Raw.{listed_cells, set_cell}
use Rattle.scene_model.specs.RawLaws.{CellsComeBack}
use Rattle.scene_model.proofs.CanParts.{IsGoodCell, CanSetCell, set_cell as cell_decides, tested}
use Rattle.scene_model.proofs.GoodCells.{found_good, good_cells, good_with}
use Rattle.scene_model.proofs.MoveKeeps.{with_tables, rewritten_keeps}
use Rattle.scene_model.proofs.RowOf.{row_there, row_stands, made_by_row, has_cell}
use Rattle.scene_table.proofs.Standing.{there_written}
use Rattle.scene_model.proofs.ShiftedCells.{cell_put, cell_reset}

-- ---- a row that is written, and written back

written_back : {X : Type 0} (xs : List X) (i : ℕ) (x y : X) → slice_get xs i ≡ Some x → slice_set (slice_set xs i y) i x ≡ xs
written_back [] i x y h = refl
written_back (z ∷ zs) zero x y h = let e : z ≡ x = cc in ap (λ t. t ∷ zs) (sym e)
written_back (z ∷ zs) (suc i) x y h = ap (λ t. z ∷ t) (written_back zs i x y h)

row_written_back : (t : Tables) (h : Home) (was new : Row) → row_at t h ≡ Some was → with_row_at (with_row_at t h new) h was ≡ t
row_written_back t h was new at =
    let rows = rows_at t h.mask in
    list_restored nat_cmp_total nat_cmp-IsAntisymmetric t h.mask (slice_set rows h.place new) _
    (ap (λ rs. slice_set rs h.place was) (list_at_same nat_cmp_total t h.mask (slice_set rows h.place new)) ∙ written_back rows h.place was new at)

row_written : (t : Tables) (h : Home) (was new : Row) → row_at t h ≡ Some was → row_at (with_row_at t h new) h ≡ Some new
row_written t h was new at = there_written t h.mask (slice_set (rows_at t h.mask) h.place new) h new refl (written_there (rows_at t h.mask) h.place new was at)

-- ---- the cell of a row that stands at a home

module _ (w : World) (e : Entity) (h : Home) (row : Row) (kind : ℕ) (before after : Cell) (v : IsValid w) (is : row_of w e ≡ Some (h, row)) (now : cell_of row.cells kind ≡ Some before) (good : IsGoodCell w kind after) where
  abbrev written : World
  written = with_tables w (with_row_at w.tables h (row_with_cell row kind after))

  there : (row_at w.tables h ≡ Some row) × (row.entity ≡ e)
  there = row_there w e h row is

  set_is : set_cell w e kind after ≡ written
  set_is = made_by_row w e h row (λ h row. with_tables w (with_row_at w.tables h (row_with_cell row kind after))) is

  written_valid : IsValid written
  written_valid =
      let old = v.rows.each h row there.0 in
      let cells = good_with w row.cells kind after (good_cells w w.slots h.mask row old) good in
      rewritten_keeps w h row (row_with_cell row kind after) v there.0 refl
      (record {
        kinds = record { ascending = cells.ascending; kinds = mask-with_cell_there row.cells kind before after old.fits.kinds.ascending now ∙ old.fits.kinds.kinds };
        shapes = cells.fit;
      })
      cells.timely

  written_is : row_of written e ≡ Some (h, row_with_cell row kind after)
  written_is = row_stands written e h (row_with_cell row kind after) written_valid.rows.once (row_written w.tables h row (row_with_cell row kind after) there.0) there.1

  written_can : CanSetCell written e kind after before
  written_can = record {
    now = ap (λ o. cell_of (listed_cells o) kind) written_is ∙ cell_put row.cells kind after;
    good = let was = found_good w row.cells kind before (good_cells w w.slots h.mask row (v.rows.each h row there.0)) now in record { fits = was.fits; timely = was.timely };
  }

  written_reset : set_cell written e kind before ≡ w
  written_reset =
      let rising = (v.rows.each h row there.0).fits.kinds.ascending in
      made_by_row written e h (row_with_cell row kind after) (λ h row. with_tables written (with_row_at written.tables h (row_with_cell row kind before))) written_is
      ∙ ap (λ cells. with_tables w (with_row_at written.tables h (row_for row.entity cells))) (cell_reset row.cells kind before after rising now)
      ∙ ap (with_tables w) (row_written_back w.tables h row (row_with_cell row kind after) there.0)

pub cells_come_back : CellsComeBack
cells_come_back e kind before after = tested (λ w. cell_decides w e kind before after) (λ w. cell_decides w e kind after before) (record {
  keeps = λ w v can. has_cell (IsValid (set_cell w e kind after)) w e kind before can.now
      (λ h row is now. subst IsValid (sym (set_is w e h row kind before after v is now can.good)) (written_valid w e h row kind before after v is now can.good));
  can_come_back = λ w v can. has_cell (CanSetCell (set_cell w e kind after) e kind after before) w e kind before can.now
      (λ h row is now. subst (λ u. CanSetCell u e kind after before) (sym (set_is w e h row kind before after v is now can.good)) (written_can w e h row kind before after v is now can.good));
  comes_back = λ w v can. has_cell (set_cell (set_cell w e kind after) e kind before ≡ w) w e kind before can.now
      (λ h row is now. ap (λ u. set_cell u e kind before) (set_is w e h row kind before after v is now can.good) ∙ written_reset w e h row kind before after v is now can.good);
})
