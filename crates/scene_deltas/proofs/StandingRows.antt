-- Where the row of an entity stands, from what the readers of a world say.
use Rattle.std.proofs.Common.{◌≡◌, ◌<◌, ℕ, List, refl, ap, subst, sym, ◌∙◌, Option, Some, None}
use Rattle.std.specs.Prelude.{option_map, slice_get}
use Rattle.std.proofs.lemmas.Option.{same_Some}
use Rattle.scene_kinds.specs.declared.entity.Entity.{Entity}
use Rattle.scene_kinds.specs.declared.cell.Cell.{Cell}
use Rattle.scene_kinds.specs.declared.cells.Row.{Row}
use Rattle.scene_kinds.specs.Lists.{whole, listed}
use Rattle.scene_kinds.specs.Map as map
use Rattle.scene_table.specs.declared.home.Home.{Home}
use Rattle.scene_table.specs.Table.{TableState}
use Rattle.scene_table.specs.Tables.{rows_at, row_at, row_for, home_for}
use Rattle.scene_table.proofs.Homes.{home_found}
use Rattle.scene_model.specs.World.{World, home_of, mask_at, place_at, row_of, rows_of}
use Rattle.scene_model.specs.Raw.{listed_cells, cells_of}
use Rattle.scene_model.specs.Valid.{IsValid}
use Rattle.scene_model.proofs.Bounds.{place_low}
use Rattle.scene_model.proofs.CanParts.{HasRow}
use Rattle.scene_model.proofs.RowOf.{homed, row_there}
use Rattle.scene_deltas.specs.Standing.{Stands}

-- the rows of a kind set that has some
listed_rows : (o : Option (Row × List Row)) (rows : List Row) → option_map whole o ≡ Some rows → listed o ≡ rows
listed_rows None rows h = absurd (let k : None ≡ Some rows = h in cc)
listed_rows (Some p) rows h = same_Some (whole p) rows h

-- the table of a kind set that has rows has all of them
pub rows_whole : (w : World) (t : TableState) → rows_of w t.mask ≡ Some t.rows → t.rows ≡ rows_at w.tables t.mask
rows_whole w t are = sym (listed_rows (map.get w.tables t.mask) t.rows are)

-- an entity's row stands where it was found
pub stands : (w : World) (e : Entity) (t : TableState) (place : ℕ) → Some (slice_get t.rows place) ≡ option_map (λ (found : Home × Row). Some found.1) (row_of w e)
    → Some (record { mask = t.mask; place = place }) ≡ home_of w e → Stands w e t place
stands w e t place row home =
    let here : Home = record { mask = t.mask; place = place } in
    let found = home_found w.tables e here (sym home) in
    let is : row_of w e ≡ Some (here, found.row) = ap (homed w.tables) (sym home) ∙ ap (λ o. option_map (λ (r : Row). (here, r)) o) found.there in
    record {
      row = found.row;
      found = is;
      there = same_Some (slice_get t.rows place) (Some found.row) (row ∙ ap (λ o. option_map (λ (found : Home × Row). Some found.1) o) is);
    }

-- its place is low
pub place_here : (w : World) (e : Entity) (mask place : ℕ) → IsValid w → Some (record { mask = mask; place = place }) ≡ home_of w e → place < 1048576
place_here w e mask place v home =
    let here : Home = record { mask = mask; place = place } in
    let found = home_found w.tables e here (sym home) in
    place_low w v here found.row found.there

-- an entity without a row is not found
pub none_found : (o : Option (Home × Row)) → None ≡ option_map (λ (found : Home × Row). Some found.1) o → o ≡ None
none_found None h = refl
none_found (Some p) h = absurd (let no : None ≡ Some (Some p.1) = h in cc)

pub none_stands : (w : World) (e : Entity) (place : ℕ) (cells : List (ℕ × Cell)) → row_of w e ≡ None → HasRow w e place cells → ⊥
none_stands w e place cells none has = let no : ◌≡◌ {A = Option (Home × Row)} None (Some (home_for cells place, row_for e cells)) = sym none ∙ has in cc

-- the same by the readers of its kind set and its place
pub stands_in_whole : (w : World) (e : Entity) (t : TableState) (place : ℕ) → mask_at w e ≡ Some t.mask → place_at w e ≡ Some place → rows_of w t.mask ≡ Some t.rows → Stands w e t place
stands_in_whole w e t place mask_is place_is rows_are =
    elim (home_of w e) as (λ o. home_of w e ≡ o → option_map (λ (h : Home). h.mask) o ≡ Some t.mask → option_map (λ (h : Home). h.place) o ≡ Some place → Stands w e t place) [
      | None ↦ λ q m p. absurd (let k : None ≡ Some place = p in cc)
      | Some h ↦ λ q m p.
          let found = home_found w.tables e h q in
          let home : h ≡ record { mask = t.mask; place = place } = λ i. record { mask = same_Some h.mask t.mask m i; place = same_Some h.place place p i } in
          let rows : rows_at w.tables t.mask ≡ t.rows = listed_rows (map.get w.tables t.mask) t.rows rows_are in
          record {
            row = found.row;
            found = ap (homed w.tables) q ∙ ap (λ o. option_map (λ (r : Row). (h, r)) o) found.there ∙ ap (λ g. Some (g, found.row)) home;
            there = ap (λ rs. slice_get rs place) (sym rows) ∙ ap (row_at w.tables) (sym home) ∙ found.there;
          }
    ] refl mask_is place_is

module _ (w : World) (e : Entity) (t : TableState) (place : ℕ) (v : IsValid w) (s : Stands w e t place) where
  abbrev here : Home
  here = record { mask = t.mask; place = place }

  -- it has its own cells
  own_row : HasRow w e place s.row.cells
  own_row =
      let there = row_there w e here s.row s.found in
      s.found ∙ (λ i. Some (record { mask = sym (v.rows.each here s.row there.0).fits.kinds.kinds i; place = place }, record { entity = there.1 i; cells = s.row.cells }))

  abbrev both : Option (Home × Row) → Home × Row
  both None = (here, s.row)
  both (Some p) = p

  -- and no others
  pub has_cells_of : (cells : List (ℕ × Cell)) → (s.row.cells ≡ cells → HasRow w e place cells) × (HasRow w e place cells → s.row.cells ≡ cells)
  has_cells_of cells = (
    λ same. subst (HasRow w e place) same own_row,
    λ has. ap (λ o. (both o).1.cells) (sym s.found ∙ has),
  )

  pub stands_only : (other : ℕ) (cells : List (ℕ × Cell)) → HasRow w e other cells → place ≡ other
  stands_only other cells has = ap (λ o. (both o).0.place) (sym s.found ∙ has)

  pub stands_there : HasRow w e place (cells_of w e)
  stands_there = subst (HasRow w e place) (sym (ap listed_cells s.found)) own_row
