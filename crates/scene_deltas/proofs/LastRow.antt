-- The last row of a table, from where the row of an entity stands.
use Rattle.std.proofs.Common.{◌≡◌, ℕ, ◌+◌, List, [], ◌∷◌, length, refl, ap, sym, ◌∙◌, Option, Some, None}
use Rattle.std.proofs.lemmas.List.{length-append}
use Rattle.scene_kinds.specs.declared.entity.Entity.{Entity}
use Rattle.scene_kinds.specs.declared.cell.Cell.{Cell}
use Rattle.scene_kinds.specs.declared.cells.Row.{Row}
use Rattle.scene_kinds.specs.Cells.{mask_of}
use Rattle.scene_alloc.specs.Ends.{last, front}
use Rattle.scene_alloc.proofs.SlotLaws.{push-last}
use Rattle.scene_table.specs.declared.home.Home.{Home}
use Rattle.scene_table.specs.Table.{TableState}
use Rattle.scene_table.specs.Tables.{rows_at, row_for, home_for}
use Rattle.scene_model.specs.World.{World, row_of}
use Rattle.scene_model.specs.Raw.{listed_cells, cells_of}
use Rattle.scene_model.specs.Valid.{IsValid}
use Rattle.scene_model.proofs.CanParts.{HasRow, HasLastRow}
use Rattle.scene_model.proofs.LastRows.{last_home, last_row_there}
use Rattle.scene_model.proofs.RowOf.{row_stands, row_there}
use Rattle.scene_deltas.specs.Standing.{Stands}
use Rattle.scene_deltas.proofs.Ends.{last_at}
use Rattle.scene_deltas.proofs.StandingRows.{has_cells_of, stands_only}

-- a last row has its place
last_has : (w : World) (e : Entity) (cells : List (ℕ × Cell)) → IsValid w → HasLastRow w e cells → HasRow w e (length (front (rows_at w.tables (mask_of cells)))) cells
last_has w e cells v is = row_stands w e (last_home w.tables (row_for e cells)) (row_for e cells) v.rows.once (last_row_there w.tables (row_for e cells) is) refl

-- an entity without a row has no last one
pub none_last : (w : World) (e : Entity) (cells : List (ℕ × Cell)) → IsValid w → row_of w e ≡ None → HasLastRow w e cells → ⊥
none_last w e cells v none is =
    let at : Home = home_for cells (length (front (rows_at w.tables (mask_of cells)))) in
    let no : ◌≡◌ {A = Option (Home × Row)} None (Some (at, row_for e cells)) = sym none ∙ last_has w e cells v is in absurd (cc)

-- a list is one longer than what stands before its last
front_longer : {X : Type 0} (xs : List X) (x : X) → last xs ≡ Some x → length (front xs) + 1 ≡ length xs
front_longer xs x is = sym (length-append (front xs) (x ∷ [])) ∙ ap length (push-last xs x is)

module _ (w : World) (e : Entity) (t : TableState) (place : ℕ) (v : IsValid w) (s : Stands w e t place) (whole : t.rows ≡ rows_at w.tables t.mask) (cells : List (ℕ × Cell)) where
  abbrev here : Option (Home × Row) → Home × Row
  here None = (record { mask = t.mask; place = place }, s.row)
  here (Some p) = p

  -- its table has the rows of its kind set
  rows_here : (other : ℕ) → HasRow w e other cells → t.rows ≡ rows_at w.tables (mask_of cells)
  rows_here other has = whole ∙ ap (λ o. rows_at w.tables (here o).0.mask) (sym s.found ∙ has)

  pub is_last : place + 1 ≡ length t.rows → s.row.cells ≡ cells → HasLastRow w e cells
  is_last end same =
      let has = (has_cells_of w e t place v s cells).0 same in
      let rows = rows_here place has in
      let there = row_there w e (home_for cells place) (row_for e cells) has in
      sym (last_at (rows_at w.tables (mask_of cells)) place (end ∙ ap length rows)) ∙ there.0

  pub was_last : HasLastRow w e cells → (place + 1 ≡ length t.rows) × (s.row.cells ≡ cells)
  was_last is =
      let n = length (front (rows_at w.tables (mask_of cells))) in
      let has = last_has w e cells v is in (
        ap (λ k. k + 1) (stands_only w e t place v s n cells has)
            ∙ front_longer (rows_at w.tables (mask_of cells)) (row_for e cells) is
            ∙ ap length (sym (rows_here n has)),
        ap (λ o. (here o).1.cells) (sym s.found ∙ has),
      )

-- the cells that an entity's row has
pub cells_here : (w : World) (e : Entity) (t : TableState) (place : ℕ) (s : Stands w e t place) → s.row.cells ≡ cells_of w e
cells_here w e t place s = sym (ap listed_cells s.found)
