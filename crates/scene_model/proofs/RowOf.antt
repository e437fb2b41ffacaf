-- The row of an entity, from where it stands, and what is made of a world by it.
use Rattle.std.proofs.Common.{◌≡◌, ℕ, refl, ap, sym, ◌∙◌, Option, Some, None}
use Rattle.std.specs.Prelude.{option_map, option_and_then}
use Rattle.scene_kinds.specs.declared.entity.Entity.{Entity}
use Rattle.scene_kinds.specs.declared.cell.Cell.{Cell}
use Rattle.scene_kinds.specs.declared.cells.Row.{Row}
use Rattle.scene_kinds.specs.Cells.{cell_of}
use Rattle.scene_table.specs.declared.home.Home.{Home}
use Rattle.scene_model.specs.World.{World, home_of, row_of}
use Rattle.scene_table.specs.Tables.{Tables, row_at, StandsOnce}
use Rattle.scene_model.specs.Raw.{by_row, listed_cells, cells_of}
use Rattle.scene_table.proofs.Homes.{home_found, home_is}

-- the row at a home, with the home
abbrev pub homed : Tables → Option Home → Option (Home × Row)
homed t o = option_and_then (λ h. option_map (λ row. (h, row)) (row_at t h)) o

-- the row that an entity has stands at its home
pub row_there : (w : World) (e : Entity) (h : Home) (row : Row) → row_of w e ≡ Some (h, row) → (row_at w.tables h ≡ Some row) × (row.entity ≡ e)
row_there w e h row is =
    elim (home_of w e) as (λ o. home_of w e ≡ o → homed w.tables o ≡ Some (h, row) → (row_at w.tables h ≡ Some row) × (row.entity ≡ e)) [
      | None ↦ λ q s. absurd (let k : None ≡ Some (h, row) = s in cc)
      | Some g ↦ λ q s.
          let k = home_found w.tables e g q in
          let found : ◌≡◌ {A = Option (Home × Row)} (Some (g, k.row)) (Some (h, row)) = sym (ap (λ o. option_map (λ (r : Row). (g, r)) o) k.there) ∙ s in
          let both : ◌≡◌ {A = Home × Row} (g, k.row) (h, row) = cc in (
            ap (λ (p : Home × Row). row_at w.tables p.0) (sym both) ∙ k.there ∙ ap (λ (p : Home × Row). Some p.1) both,
            ap (λ (p : Home × Row). p.1.entity) (sym both) ∙ k.same,
          )
    ] refl is

-- a row that stands somewhere is its entity's
pub row_stands : (w : World) (e : Entity) (h : Home) (row : Row) → StandsOnce w.tables → row_at w.tables h ≡ Some row → row.entity ≡ e → row_of w e ≡ Some (h, row)
row_stands w e h row once at same = ap (homed w.tables) (home_is w.tables e h row once at same) ∙ ap (λ o. option_map (λ (r : Row). (h, r)) o) at

-- what is made of a world by the row of an entity
pub made_by_row : (w : World) (e : Entity) (h : Home) (row : Row) (change : Home → Row → World) → row_of w e ≡ Some (h, row) → by_row w (row_of w e) change ≡ change h row
made_by_row w e h row change is = ap (λ o. by_row w o change) is

-- an entity that has a cell has a row
pub has_cell : (P : Type 0) (w : World) (e : Entity) (kind : ℕ) (c : Cell) → cell_of (cells_of w e) kind ≡ Some c
    → ((h : Home) (row : Row) → row_of w e ≡ Some (h, row) → cell_of row.cells kind ≡ Some c → P) → P
has_cell P w e kind c is rest =
    elim (row_of w e) as (λ o. row_of w e ≡ o → cell_of (listed_cells o) kind ≡ Some c → P) [
      | None ↦ λ q s. absurd (let k : None ≡ Some c = s in cc)
      | Some p ↦ λ q s. rest p.0 p.1 q s
    ] refl is
