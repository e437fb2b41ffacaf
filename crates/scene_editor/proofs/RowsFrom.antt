-- The rows that commands leave, against a world from before the frame: what a command writes is new, and all else was
-- there.
use Rattle.std.proofs.Common.{◌≡◌, ◌≤◌, ◌<◌, ℕ, true, false, cond, List, [], ◌∷◌, refl, sym, ◌∙◌, subst, arith, Option, Some, None}
use Rattle.std.specs.Ordering.{nat_cmp, eq_by_cmp}
use Rattle.std.specs.FinMap.{nat_cmp-IsAntisymmetric}
use Rattle.scene_kinds.specs.declared.entity.Entity.{Entity}
use Rattle.scene_kinds.specs.declared.cell.Cell.{Cell}
use Rattle.scene_kinds.specs.declared.cells.Row.{Row}
use Rattle.scene_kinds.specs.declared.value.Value.{Value}
use Rattle.scene_kinds.specs.Cells.{new_cell, put_over, cell_of, with_cell, without_cell}
use Rattle.scene_kinds.proofs.CellLaws.{cell_of-with_cell, cell_of-without_cell}
use Rattle.scene_kinds.proofs.Maps.{equal_keys}
use Rattle.scene_table.specs.Table.{row_with_cell}
use Rattle.scene_table.specs.declared.home.Home.{Home}
use Rattle.scene_table.specs.Tables.{Tables, row_at, without_row, EachRow}
use Rattle.scene_table.proofs.Standing.{each_added, each_removed, each_rewritten}
use Rattle.scene_model.specs.World.{World}
use Rattle.scene_model.specs.Commands.{new_cells, after_move, after_insert}
use Rattle.scene_editor.specs.GoesOn.{IsFrom, AreFrom, IsRowFrom}

not_both : (a b : ℕ) → a < b → b ≤ a → ⊥
not_both a b l m = omega (arith, l, m)

-- ---- cells

new_from : (before : World) (e : Entity) (kind tick : ℕ) (value : Value) → before.tick < tick → IsFrom before e kind (new_cell tick value)
new_from before e kind tick value l = record { kept = λ m. absurd (not_both before.tick tick l m); added = λ m. absurd (not_both before.tick tick l m) }

over_from : (before : World) (e : Entity) (kind tick : ℕ) (c : Cell) (value : Value) → before.tick < tick → IsFrom before e kind c
    → IsFrom before e kind (put_over (Some c) value tick)
over_from before e kind tick c value l f = record { kept = λ m. absurd (not_both before.tick tick l m); added = f.added }

with_from : (before : World) (e : Entity) (cells : List (ℕ × Cell)) (kind : ℕ) (cell : Cell) → AreFrom before e cells → IsFrom before e kind cell
    → AreFrom before e (with_cell cells kind cell)
with_from before e cells kind cell from here q c there =
    elim (eq_by_cmp nat_cmp q kind) as (λ b. eq_by_cmp nat_cmp q kind ≡ b → cond b (Some cell) (cell_of cells q) ≡ Some c → IsFrom before e q c) [
      | true ↦ λ t g.
          let key = equal_keys nat_cmp-IsAntisymmetric q kind t in
          let same : cell ≡ c = cc in
          subst (λ k. IsFrom before e k c) (sym key) (subst (IsFrom before e kind) same here)
      | false ↦ λ t g. from q c g
    ] refl (sym (cell_of-with_cell cells kind cell q) ∙ there)

pub without_from : (before : World) (e : Entity) (cells : List (ℕ × Cell)) (kind : ℕ) → AreFrom before e cells
    → AreFrom before e (without_cell cells kind)
without_from before e cells kind from q c there =
    elim (eq_by_cmp nat_cmp q kind) as (λ b. cond b None (cell_of cells q) ≡ Some c → IsFrom before e q c) [
      | true ↦ λ g. absurd (let k : None ≡ Some c = g in cc)
      | false ↦ λ g. from q c g
    ] (sym (cell_of-without_cell cells kind q) ∙ there)

pub new_cells_from : (before : World) (e : Entity) (tick : ℕ) (given : List (ℕ × Value)) → before.tick < tick → AreFrom before e (new_cells tick given)
new_cells_from before e tick [] l = λ q c there. absurd (let k : None ≡ Some c = there in cc)
new_cells_from before e tick (g ∷ gs) l =
    with_from before e (new_cells tick gs) g.0 (new_cell tick g.1) (new_cells_from before e tick gs l) (new_from before e g.0 tick g.1 l)

-- ---- rows

pub moved_rows : (before : World) (t : Tables) (h : Home) (row : Row) (cells : List (ℕ × Cell)) → row_at t h ≡ Some row → EachRow (IsRowFrom before) t
    → AreFrom before row.entity cells → EachRow (IsRowFrom before) (after_move t h row cells)
moved_rows before t h row cells at rows from =
    each_added (IsRowFrom before) (without_row t h) (record { entity = row.entity; cells = cells }) (each_removed (IsRowFrom before) t h row at rows) from

pub inserted_rows : (before : World) (tick : ℕ) (t : Tables) (h : Home) (row : Row) (kind : ℕ) (value : Value) (o : Option Cell)
    → cell_of row.cells kind ≡ o → before.tick < tick → row_at t h ≡ Some row → EachRow (IsRowFrom before) t
    → EachRow (IsRowFrom before) (after_insert tick t h row kind value o)
inserted_rows before tick t h row kind value None is l at rows =
    moved_rows before t h row (with_cell row.cells kind (new_cell tick value)) at rows
    (with_from before row.entity row.cells kind (new_cell tick value) (rows h row at) (new_from before row.entity kind tick value l))
inserted_rows before tick t h row kind value (Some c) is l at rows =
    let new : Cell = put_over (Some c) value tick in
    each_rewritten (IsRowFrom before) t h (row_with_cell row kind new) rows
    (with_from before row.entity row.cells kind new (rows h row at) (over_from before row.entity kind tick c value l (rows h row at kind c is)))
