-- A cell of a live entity's own kind that is written to a valid world: it is accepted, and every other cell stays as it
-- was.
use Rattle.std.proofs.Common.{◌≡◌, ℕ, zero, suc, Bool, true, false, cond, not, List, [], ◌∷◌, length, refl, ap, subst, sym, ◌∙◌, Option, Some, None, Ok}
use Rattle.std.specs.Prelude.{slice_get, slice_set}
use Rattle.std.specs.List.{AllZip}
use Rattle.std.specs.Ordering.{nat_cmp, eq_by_cmp}
use Rattle.std.specs.Cmp.{nat_cmp_total}
use Rattle.std.specs.FinMap.{nat_cmp-IsAntisymmetric}
use Rattle.std.specs.FinMap.Entries.{put, find}
use Rattle.std.proofs.lemmas.Bool.{lt-ltb}
use Rattle.std.proofs.lemmas.Option.{same_Some}
use Rattle.scene_kinds.specs.declared.entity.Entity.{Entity}
use Rattle.scene_kinds.specs.declared.cell.Cell.{Cell}
use Rattle.scene_kinds.specs.declared.cells.Row.{Row}
use Rattle.scene_kinds.specs.declared.fault.Fault.TheVariants.{NoSuchKind, WrongShape}
use Rattle.scene_kinds.specs.declared.value.Value.{Value}
use Rattle.scene_kinds.specs.Cells.{cell_of, put_over}
use Rattle.scene_kinds.specs.KindSet.{KindSet}
use Rattle.scene_kinds.specs.Lists.{listed}
use Rattle.scene_kinds.specs.Map as map_of
use Rattle.scene_kinds.specs.Schema.{Kinds, fits_kind}
use Rattle.scene_kinds.proofs.Elements.{written_there, written_stays}
use Rattle.scene_kinds.proofs.Lists.{list_at-with_list}
use Rattle.scene_kinds.proofs.Maps.{equal_keys}
use Rattle.scene_table.specs.Table.{row_with_cell}
use Rattle.scene_table.specs.Tables.{Tables, rows_at, row_at, with_rows, with_row_at, masks_of}
use Rattle.scene_table.specs.declared.home.Home.{Home}
use Rattle.scene_table.proofs.Standing.{apart, same_home, in_list, there_written, there_apart}
use Rattle.scene_model.specs.World.{World}
use Rattle.scene_model.specs.Commands.{unless, with_live, after_insert, insert_fault}
use Rattle.scene_model.specs.Perform.{Insert, answering, perform}
use Rattle.scene_model.specs.Valid.{IsValid}
use Rattle.scene_model.proofs.MoveKeeps.{with_tables, insert_made}
use Rattle.scene_model.proofs.RowKinds.{fits_known}
use Rattle.scene_model.proofs.RowOf.{row_stands}
use Rattle.scene_pass.specs.Changes.{values_of}
use Rattle.scene_schedule.proofs.Entries.{keys_put, found_put, found_apart}
use Rattle.scene_schedule.proofs.Zips.{zip_itself, zip_set, zip_over, zip_turned, zip_weaker, zip_at}
use Rattle.scene_schedule.proofs.SameValues.{IsRowAlike, row_itself, row_over, row_turned, row_weaker, put_unseen, values_put}

-- ---- tables that are alike

-- two tables have the same kind sets, and under each of them rows of the same entities with the same kinds, in the same
-- order, and the same values of the kinds that count
pub record AreTablesAlike (on : ℕ → Bool) (s t : Tables) : Type 0 where
  pub masks : masks_of s ≡ masks_of t
  pub rows : (mask : KindSet) → AllZip (IsRowAlike on) (rows_at s mask) (rows_at t mask)

pub tables_themselves : (on : ℕ → Bool) (t : Tables) → AreTablesAlike on t t
tables_themselves on t = record { masks = refl; rows = λ mask. zip_itself (IsRowAlike on) (rows_at t mask) (row_itself on) }

pub tables_over : (on : ℕ → Bool) (r s t : Tables) → AreTablesAlike on r s → AreTablesAlike on s t → AreTablesAlike on r t
tables_over on r s t h g = record {
  masks = h.masks ∙ g.masks;
  rows = λ mask. zip_over (IsRowAlike on) (IsRowAlike on) (IsRowAlike on) (rows_at r mask) (rows_at s mask) (rows_at t mask) (row_over on) (h.rows mask) (g.rows mask);
}

pub tables_turned : (on : ℕ → Bool) (s t : Tables) → AreTablesAlike on s t → AreTablesAlike on t s
tables_turned on s t h = record {
  masks = sym h.masks;
  rows = λ mask. zip_turned (IsRowAlike on) (IsRowAlike on) (rows_at s mask) (rows_at t mask) (row_turned on) (h.rows mask);
}

pub tables_weaker : (on off : ℕ → Bool) (s t : Tables) → ((kind : ℕ) → off kind ≡ true → on kind ≡ true) → AreTablesAlike on s t → AreTablesAlike off s t
tables_weaker on off s t c h = record {
  masks = h.masks;
  rows = λ mask. zip_weaker (IsRowAlike on) (IsRowAlike off) (rows_at s mask) (rows_at t mask) (λ x y. row_weaker on off x y c) (h.rows mask);
}

-- the row at a home, in the other tables
pub home_alike : (on : ℕ → Bool) (s t : Tables) (h : Home) (row : Row) → AreTablesAlike on s t → row_at s h ≡ Some row
    → (other : Row) × ((row_at t h ≡ Some other) × IsRowAlike on row other)
home_alike on s t h row a at = zip_at (IsRowAlike on) (rows_at s h.mask) (rows_at t h.mask) h.place row at (a.rows h.mask)

-- ---- a row that is written in its place

-- rows that are there are there once one of them is written
set_there : (xs : List Row) (i : ℕ) (old new : Row) → slice_get xs i ≡ Some old → (y : Row) × ((ys : List Row) × (slice_set xs i new ≡ y ∷ ys))
set_there [] i old new at = absurd (let wrong : None ≡ Some old = at in cc)
set_there (x ∷ xs) zero old new at = (new, (xs, refl))
set_there (x ∷ xs) (suc i) old new at = (x, (slice_set xs i new, refl))

masks_written : (t : Tables) (h : Home) (old new : Row) → row_at t h ≡ Some old → masks_of (with_row_at t h new) ≡ masks_of t
masks_written t h old new at =
    elim (map_of.get t h.mask) as (λ o. map_of.get t h.mask ≡ o → slice_get (listed o) h.place ≡ Some old → masks_of (with_row_at t h new) ≡ masks_of t) [
      | None ↦ λ e g. absurd (let wrong : None ≡ Some old = g in cc)
      | Some p ↦ λ e g.
          let k = set_there (rows_at t h.mask) h.place old new at in
          ap (λ (rows : List Row). masks_of (with_rows t h.mask rows)) k.1.1 ∙ keys_put h.mask (k.0, k.1.0) p t.entries t.sorted e
    ] refl at

rows_written : (on : ℕ → Bool) (t : Tables) (h : Home) (old new : Row) → row_at t h ≡ Some old → ((y : Row) → IsRowAlike on old y → IsRowAlike on new y)
    → (mask : KindSet) → AllZip (IsRowAlike on) (rows_at (with_row_at t h new) mask) (rows_at t mask)
rows_written on t h old new at f mask =
    let rows = slice_set (rows_at t h.mask) h.place new in
    subst (λ (xs : List Row). AllZip (IsRowAlike on) xs (rows_at t mask)) (sym (list_at-with_list nat_cmp_total t h.mask rows mask))
    (elim (eq_by_cmp nat_cmp mask h.mask) as (λ b. eq_by_cmp nat_cmp mask h.mask ≡ b → AllZip (IsRowAlike on) (cond b rows (rows_at t mask)) (rows_at t mask)) [
      | true ↦ λ e.
          subst (λ (m : ℕ). AllZip (IsRowAlike on) rows (rows_at t m)) (sym (equal_keys nat_cmp-IsAntisymmetric mask h.mask e))
          (zip_set (IsRowAlike on) (rows_at t h.mask) (rows_at t h.mask) h.place old new at f (zip_itself (IsRowAlike on) (rows_at t h.mask) (row_itself on)))
      | false ↦ λ e. zip_itself (IsRowAlike on) (rows_at t mask) (row_itself on)
    ] refl)

-- a row stands at its home once one is written: the new one, where it is its home, or else the same
pub row_after : (P : Type 0) (t : Tables) (h : Home) (old new : Row) (g : Home) (r : Row) → row_at t h ≡ Some old → row_at t g ≡ Some r
    → (g ≡ h → r ≡ old → row_at (with_row_at t h new) g ≡ Some new → P) → (row_at (with_row_at t h new) g ≡ Some r → P) → P
row_after P t h old new g r at is here there =
    elim (eq_by_cmp nat_cmp g.mask h.mask) as (λ b. eq_by_cmp nat_cmp g.mask h.mask ≡ b → P) [
      | true ↦ λ e.
          let m = equal_keys nat_cmp-IsAntisymmetric g.mask h.mask e in
          elim (eq_by_cmp nat_cmp g.place h.place) as (λ b. eq_by_cmp nat_cmp g.place h.place ≡ b → P) [
            | true ↦ λ f.
                let n = equal_keys nat_cmp-IsAntisymmetric g.place h.place f in
                let u : g ≡ h = same_home g h m n in
                here u (same_Some r old (sym is ∙ ap (row_at t) u ∙ at))
                (ap (row_at (with_row_at t h new)) u ∙ there_written t h.mask (slice_set (rows_at t h.mask) h.place new) h new refl (written_there (rows_at t h.mask) h.place new old at))
            | false ↦ λ f. there (there_written t h.mask (slice_set (rows_at t h.mask) h.place new) g r m
                (written_stays (rows_at t h.mask) h.place new g.place r (apart g.place h.place f) (in_list t h.mask g r m is)))
          ] refl
      | false ↦ λ e. there (there_apart t h.mask (slice_set (rows_at t h.mask) h.place new) g r (apart g.mask h.mask e) is)
    ] refl

-- the rows of other kind sets stay
rows_elsewhere : (t : Tables) (h : Home) (new : Row) (mask : KindSet) → (h.mask ≡ mask → ⊥) → rows_at (with_row_at t h new) mask ≡ rows_at t mask
rows_elsewhere t h new mask other =
    let rows = slice_set (rows_at t h.mask) h.place new in
    list_at-with_list nat_cmp_total t h.mask rows mask
    ∙ elim (eq_by_cmp nat_cmp mask h.mask) as (λ b. eq_by_cmp nat_cmp mask h.mask ≡ b → cond b rows (rows_at t mask) ≡ rows_at t mask) [
      | true ↦ λ e. absurd (other (sym (equal_keys nat_cmp-IsAntisymmetric mask h.mask e)))
      | false ↦ λ e. refl
    ] refl

-- ---- a value at a home

-- what the row at a home has of a kind
pub record HasAt (t : Tables) (h : Home) (kind : ℕ) (o : Option Value) : Type 0 where
  pub row : Row
  pub there : row_at t h ≡ Some row
  pub value : find nat_cmp kind (values_of row) ≡ o

-- ---- one cell

-- a cell that may be written: the entity is alive, has the kind, and the value fits it
pub record CanWrite (w : World) (e : Entity) (kind : ℕ) (value : Value) (h : Home) : Type 0 where
  pub row : Row
  pub there : row_at w.tables h ≡ Some row
  pub same : row.entity ≡ e
  pub old : Cell
  pub has : cell_of row.cells kind ≡ Some old
  pub fits : fits_kind w.schema value kind ≡ true

-- the world with the cell
pub record IsWritten (w : World) (e : Entity) (kind : ℕ) (value : Value) (h : Home) : Type 0 where
  pub tables : Tables
  pub valid : IsValid (with_tables w tables)
  pub accepted : perform w (Insert e kind value) ≡ Ok (None, with_tables w tables)
  pub alike : (on : ℕ → Bool) → on kind ≡ false → AreTablesAlike on tables w.tables
  pub here : HasAt tables h kind (Some value)
  pub stays : (g : Home) (q : ℕ) (o : Option Value) → HasAt w.tables g q o → (g ≡ h → q ≡ kind → o ≡ Some value) → HasAt tables g q o
  pub elsewhere : (mask : KindSet) → (h.mask ≡ mask → ⊥) → rows_at tables mask ≡ rows_at w.tables mask

no_fault_known : (schema : Kinds) (kind : ℕ) (value : Value) → fits_kind schema value kind ≡ true → insert_fault schema kind value ≡ None
no_fault_known schema kind value fits =
    ap (λ b. cond (not b) (Some NoSuchKind) (cond (not (fits_kind schema value kind)) (Some WrongShape) None)) (lt-ltb kind (length schema) (fits_known schema value kind fits))
    ∙ ap (λ b. cond (not b) (Some WrongShape) None) fits

module _ (w : World) (e : Entity) (kind : ℕ) (value : Value) (h : Home) (valid : IsValid w) (can : CanWrite w e kind value h) where
  abbrev new_cell : Cell
  new_cell = put_over (Some can.old) value w.tick

  abbrev new_row : Row
  new_row = row_with_cell can.row kind new_cell

  abbrev new_tables : Tables
  new_tables = with_row_at w.tables h new_row

  write_accepted : perform w (Insert e kind value) ≡ Ok (None, with_tables w new_tables)
  write_accepted =
      ap (λ o. answering {A = Unit {0}} {B = Option Entity} (λ a. None) (with_live o (λ h row. unless (insert_fault w.schema kind value)
      (Ok (tt, with_tables w (after_insert w.tick w.tables h row kind value (cell_of row.cells kind))))))) (row_stands w e h can.row valid.rows.once can.there can.same)
      ∙ ap (λ f. answering {A = Unit {0}} {B = Option Entity} (λ a. None) (unless f
      (Ok (tt, with_tables w (after_insert w.tick w.tables h can.row kind value (cell_of can.row.cells kind)))))) (no_fault_known w.schema kind value can.fits)
      ∙ ap (λ o. Ok (None, with_tables w (after_insert w.tick w.tables h can.row kind value o))) can.has

  -- the values of the new row
  new_values : values_of new_row ≡ put nat_cmp kind value (values_of can.row)
  new_values = values_put can.row.cells kind new_cell

  row_alike : (on : ℕ → Bool) → on kind ≡ false → (y : Row) → IsRowAlike on can.row y → IsRowAlike on new_row y
  row_alike on off y a = record {
    entity = a.entity;
    cells = put_unseen on kind new_cell can.old can.row.cells y.cells off (valid.rows.each h can.row can.there).fits.kinds.ascending can.has a.cells;
  }

  value_stays : (g : Home) (q : ℕ) (o : Option Value) → HasAt w.tables g q o → (g ≡ h → q ≡ kind → o ≡ Some value) → HasAt new_tables g q o
  value_stays g q o a wanted =
      row_after (HasAt new_tables g q o) w.tables h can.row new_row g a.row can.there a.there
      (λ here same now. record {
        row = new_row;
        there = now;
        value = ap (find nat_cmp q) new_values ∙ elim (eq_by_cmp nat_cmp q kind) as (λ b. eq_by_cmp nat_cmp q kind ≡ b → find nat_cmp q (put nat_cmp kind value (values_of can.row)) ≡ o) [
          | true ↦ λ t.
              let k = equal_keys nat_cmp-IsAntisymmetric q kind t in
              ap (λ n. find nat_cmp n (put nat_cmp kind value (values_of can.row))) k ∙ found_put kind value (values_of can.row) ∙ sym (wanted here k)
          | false ↦ λ t. found_apart kind q value (values_of can.row) t ∙ ap (λ (r : Row). find nat_cmp q (values_of r)) (sym same) ∙ a.value
        ] refl;
      })
      (λ now. record { row = a.row; there = now; value = a.value })

  pub cell_written : IsWritten w e kind value h
  cell_written = record {
    tables = new_tables;
    valid = insert_made w h can.row kind value (Some can.old) can.has valid can.there can.fits;
    accepted = write_accepted;
    alike = λ on off. record {
      masks = masks_written w.tables h can.row new_row can.there;
      rows = rows_written on w.tables h can.row new_row can.there (row_alike on off);
    };
    here = record {
      row = new_row;
      there = there_written w.tables h.mask (slice_set (rows_at w.tables h.mask) h.place new_row) h new_row refl (written_there (rows_at w.tables h.mask) h.place new_row can.row can.there);
      value = ap (find nat_cmp kind) new_values ∙ found_put kind value (values_of can.row);
    };
    stays = value_stays;
    elsewhere = rows_elsewhere w.tables h new_row;
  }
