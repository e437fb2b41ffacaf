-- The cells of a world after a delta was taken back: those of the world before, or ones that the delta brings.
use Rattle.std.proofs.Common.{◌≡◌, ℕ, zero, suc, true, false, cond, not, List, [], ◌∷◌, refl, ap, subst, sym, ◌∙◌, Bool, Option, Some, None}
use Rattle.std.specs.Prelude.{slice_get, IfSome}
use Rattle.std.specs.Ordering.{nat_cmp, eq_by_cmp}
use Rattle.std.specs.FinMap.{nat_cmp-IsAntisymmetric}
use Rattle.scene_kinds.specs.declared.entity.Entity.{Entity}
use Rattle.scene_kinds.specs.declared.cell.Cell.{Cell}
use Rattle.scene_kinds.specs.declared.cells.Row.{Row}
use Rattle.scene_kinds.specs.Cells.{cell_of, with_cell, without_cell, mask_of}
use Rattle.scene_kinds.proofs.CellLaws.{cell_of-with_cell, cell_of-without_cell}
use Rattle.scene_kinds.proofs.Elements.{pushed}
use Rattle.scene_kinds.proofs.Maps.{equal_keys}
use Rattle.scene_resources.specs.Resources.{name_cmp_exact, cell_of as resource_of}
use Rattle.scene_resources.proofs.ResourceLaws.{is_name, restored_cells}
use Rattle.scene_table.specs.Rows.{put_back}
use Rattle.scene_table.specs.Table.{row_with_cell}
use Rattle.scene_table.specs.declared.home.Home.{Home}
use Rattle.scene_table.specs.Tables.{Tables, EachRow, row_at, rows_at, row_for, with_row_back}
use Rattle.scene_table.proofs.Standing.{each_removed, each_rewritten, written_rows}
use Rattle.scene_model.specs.World.{World, row_of}
use Rattle.scene_model.specs.Raw.{by_row, shifted, set_tick}
use Rattle.scene_model.proofs.RowOf.{row_there}
use Rattle.scene_deltas.specs.declared.delta.Delta.{Delta}
use Rattle.scene_deltas.specs.declared.delta.Delta.TheVariants.{Spawned, Despawned, Shifted, CellSet, Linked, ResourceSet}
use Rattle.scene_deltas.specs.Deltas.{back, back_all}
use Rattle.scene_journal.specs.declared.spot.Spot.TheVariants.{Component, Resource}
use Rattle.scene_journal.specs.Newest.{Newest, AreListed, Covers, GoesBack, IsListed, IsWider, ListsBack}
use Rattle.scene_journal.proofs.Listed.{EachOf, cells_wider}

pub covers_wider : (a b : Newest) (w : World) → IsWider a b → Covers a w → Covers b w
covers_wider a b w wide c = record {
  rows = λ h row at. cells_wider a b row.entity row.cells wide (c.rows h row at);
  resources = λ name cell is. wide.spots cell.changed (Resource name) (c.resources name cell is);
}

-- ---- the cells of a row

with_listed : (n : Newest) (e : Entity) (cells : List (ℕ × Cell)) (kind : ℕ) (cell : Cell) → AreListed n e cells → IsListed n cell.changed (Component e kind)
    → AreListed n e (with_cell cells kind cell)
with_listed n e cells kind cell were new q c there =
    elim (eq_by_cmp nat_cmp q kind) as (λ b. eq_by_cmp nat_cmp q kind ≡ b → cond b (Some cell) (cell_of cells q) ≡ Some c → IsListed n c.changed (Component e q)) [
      | true ↦ λ t g.
          let key = equal_keys nat_cmp-IsAntisymmetric q kind t in
          let same : cell ≡ c = cc in
          subst (λ k. IsListed n c.changed (Component e k)) (sym key) (subst (λ (x : Cell). IsListed n x.changed (Component e kind)) same new)
      | false ↦ λ t g. were q c g
    ] refl (sym (cell_of-with_cell cells kind cell q) ∙ there)

without_listed : (n : Newest) (e : Entity) (cells : List (ℕ × Cell)) (kind : ℕ) → AreListed n e cells → AreListed n e (without_cell cells kind)
without_listed n e cells kind were q c there =
    elim (eq_by_cmp nat_cmp q kind) as (λ b. cond b None (cell_of cells q) ≡ Some c → IsListed n c.changed (Component e q)) [
      | true ↦ λ g. absurd (let k : None ≡ Some c = g in cc)
      | false ↦ λ g. were q c g
    ] (sym (cell_of-without_cell cells kind q) ∙ there)

-- a cell that moved back
back_listed : (n : Newest) (e : Entity) (cells : List (ℕ × Cell)) (kind : ℕ) (cell : Cell) (inward : Bool) → AreListed n e cells
    → (inward ≡ false → IsListed n cell.changed (Component e kind)) → AreListed n e (shifted cells kind cell (not inward))
back_listed n e cells kind cell true were new = without_listed n e cells kind were
back_listed n e cells kind cell false were new = with_listed n e cells kind cell were (new refl)

-- ---- the rows of all tables

-- a row that stands after one was put back is that one or an old one
put_back_cases : {X : Type 0} (P : Type 0) (xs : List X) (i : ℕ) (x : X) (p : ℕ) (r : X) → slice_get (put_back xs i x) p ≡ Some r
    → (x ≡ r → P) → ((q : ℕ) → slice_get xs q ≡ Some r → P) → P
put_back_cases P [] i x zero r h new old = new (let k : x ≡ r = cc in k)
put_back_cases P [] i x (suc p) r h new old = absurd (let k : None ≡ Some r = h in cc)
put_back_cases P (y ∷ ys) zero x zero r h new old = new (let k : x ≡ r = cc in k)
put_back_cases P (y ∷ ys) zero x (suc p) r h new old = pushed P ys y p r h (λ g. old (suc p) g) (λ e f. old 0 (ap (λ z. Some z) f))
put_back_cases P (y ∷ ys) (suc i) x zero r h new old = old 0 h
put_back_cases P (y ∷ ys) (suc i) x (suc p) r h new old = put_back_cases P ys i x p r h new (λ q g. old (suc q) g)

module _ (n : Newest) where
  abbrev IsRowListed : ℕ → Row → Type 0
  IsRowListed mask row = AreListed n row.entity row.cells

  put_back_listed : (t : Tables) (place : ℕ) (row : Row) → EachRow IsRowListed t → AreListed n row.entity row.cells → EachRow IsRowListed (with_row_back t place row)
  put_back_listed t place row each new g r is =
      let mask = mask_of row.cells in
      written_rows (AreListed n r.entity r.cells) t mask (put_back (rows_at t mask) place row) g r is
      (λ e k. put_back_cases (AreListed n r.entity r.cells) (rows_at t mask) place row g.place r k
      (λ same. subst (λ (x : Row). AreListed n x.entity x.cells) same new)
      (λ q old. each (record { mask = mask; place = q }) r old))
      (λ other k. each g r k)

  -- what is made of a world by an entity's row
  made_covered : (w : World) (e : Entity) (change : Home → Row → World) → Covers n w
      → ((h : Home) (row : Row) → row_at w.tables h ≡ Some row → row.entity ≡ e → Covers n (change h row)) → Covers n (by_row w (row_of w e) change)
  made_covered w e change c made = from (row_of w e) refl
    where
      from : (o : Option (Home × Row)) → row_of w e ≡ o → Covers n (by_row w o change)
      from None is = c
      from (Some p) is = let there = row_there w e p.0 p.1 is in made p.0 p.1 there.0 there.1

  abbrev HasListed : Option Cell → List ℕ → Type 0
  HasListed o name = IfSome o (λ cell. IsListed n cell.changed (Resource name))

  some_listed : (o : Option Cell) (name : List ℕ) (cell : Cell) → HasListed o name → o ≡ Some cell → IsListed n cell.changed (Resource name)
  some_listed None name cell h is = absurd (let k : None ≡ Some cell = is in cc)
  some_listed (Some c) name cell h is = let same : c ≡ cell = cc in subst (λ (x : Cell). IsListed n x.changed (Resource name)) same h

  pub covers_back : (d : Delta) (w : World) → ListsBack n d → Covers n w → Covers n (back d w)
  covers_back (Spawned e cells fresh) w lists c =
      made_covered w e _ c (λ h row at same. record { rows = each_removed IsRowListed w.tables h row at c.rows; resources = c.resources })
  covers_back (Despawned e place cells link retired) w lists c = record {
    rows = put_back_listed w.tables place (row_for e cells) c.rows lists;
    resources = c.resources;
  }
  covers_back (Shifted e place kind cell inward) w lists c =
      made_covered w e _ c (λ h row at same. record {
        rows = put_back_listed _ place (row_for row.entity (shifted row.cells kind cell (not inward))) (each_removed IsRowListed w.tables h row at c.rows)
            (back_listed n row.entity row.cells kind cell inward (c.rows h row at) (λ out. subst (λ (x : Entity). IsListed n cell.changed (Component x kind)) (sym same) (lists out)));
        resources = c.resources;
      })
  covers_back (CellSet e kind before after) w lists c =
      made_covered w e _ c (λ h row at same. record {
        rows = each_rewritten IsRowListed w.tables h (row_with_cell row kind before) c.rows
            (with_listed n row.entity row.cells kind before (c.rows h row at) (subst (λ (x : Entity). IsListed n before.changed (Component x kind)) (sym same) lists));
        resources = c.resources;
      })
  covers_back (Linked e before after) w lists c = record { rows = c.rows; resources = c.resources }
  covers_back (ResourceSet name before after) w lists c = record {
    rows = c.rows;
    resources = λ q cell is.
        elim (is_name q name) as (λ b. is_name q name ≡ b → cond b before (resource_of w.resources q) ≡ Some cell → IsListed n cell.changed (Resource q)) [
          | true ↦ λ t g.
              let key = equal_keys name_cmp_exact q name t in
              subst (λ (x : List ℕ). IsListed n cell.changed (Resource x)) (sym key) (some_listed before name cell lists g)
          | false ↦ λ t g. c.resources q cell g
        ] refl (sym (restored_cells w.resources name before q) ∙ is);
  }

  covers_all : (ds : List Delta) (w : World) → EachOf (ListsBack n) ds → Covers n w → Covers n (back_all ds w)
  covers_all [] w lists c = c
  covers_all (d ∷ ds) w lists c = covers_back d (back_all ds w) lists.0 (covers_all ds w lists.1 c)

  pub goes_back : (old : Newest) (ds : List Delta) → IsWider old n → EachOf (ListsBack n) ds → GoesBack ds old n
  goes_back old ds wide lists w c = covers_all ds w lists (covers_wider old n w wide c)

-- more spots
pub lists_wider : (a b : Newest) (d : Delta) → IsWider a b → ListsBack a d → ListsBack b d
lists_wider a b (Spawned e cells fresh) wide h = tt
lists_wider a b (Despawned e place cells link retired) wide h = cells_wider a b e cells wide h
lists_wider a b (Shifted e place kind cell inward) wide h = λ out. wide.spots cell.changed (Component e kind) (h out)
lists_wider a b (CellSet e kind before after) wide h = wide.spots before.changed (Component e kind) h
lists_wider a b (Linked e before after) wide h = tt
lists_wider a b (ResourceSet name before after) wide h = from before h
  where
    from : (o : Option Cell) → IfSome o (λ cell. IsListed a cell.changed (Resource name)) → IfSome o (λ cell. IsListed b cell.changed (Resource name))
    from None k = tt
    from (Some cell) k = wide.spots cell.changed (Resource name) k

-- another tick changes no cell
pub covers_at : (n : Newest) (w : World) (tick : ℕ) → Covers n w → Covers n (set_tick w tick)
covers_at n w tick c = record { rows = c.rows; resources = c.resources }
