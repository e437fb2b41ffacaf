-- The kind set of an entity's cells, and of those that it has after a shift.
use Rattle.std.proofs.Common.{◌≡◌, ℕ, ◌<◌, true, false, Bool, List, refl, ap, sym, ◌∙◌, arith, Some, None}
use Rattle.std.specs.Prelude.{option_map}
use Rattle.std.proofs.lemmas.Option.{same_Some}
use Rattle.scene_kinds.specs.declared.entity.Entity.{Entity}
use Rattle.scene_kinds.specs.declared.cell.Cell.{Cell}
use Rattle.scene_kinds.specs.declared.cells.Row.{Row}
use Rattle.scene_kinds.specs.Cells.{AreKindsBelow, mask_of}
use Rattle.scene_kinds.specs.KindSet.{set_with, set_without}
use Rattle.scene_kinds.proofs.KindSets.{mask_of-with_cell, mask_of-without_cell}
use Rattle.scene_table.specs.declared.home.Home.{Home}
use Rattle.scene_table.specs.Tables.{row_for}
use Rattle.scene_table.proofs.Homes.{home_found}
use Rattle.scene_model.specs.World.{World, home_of, row_of, mask_at}
use Rattle.scene_model.specs.Raw.{listed_cells, cells_of, shifted}
use Rattle.scene_model.specs.Valid.{IsValid}
use Rattle.scene_model.proofs.CanParts.{AreGoodCells, CanMove}
use Rattle.scene_model.proofs.GoodCells.{found_good, good_cells, row_of_good}
use Rattle.scene_model.proofs.RowKinds.{fits_known, row_kinds_low}
use Rattle.scene_model.proofs.RowOf.{homed, row_there}

-- the cells of an entity are good, also where it has none
cells_good : (w : World) (e : Entity) → IsValid w → AreGoodCells w (cells_of w e)
cells_good w e v =
    elim (row_of w e) as (λ o. row_of w e ≡ o → AreGoodCells w (listed_cells o)) [
      | None ↦ λ q. record { ascending = tt; fit = refl; timely = refl }
      | Some p ↦ λ q. good_cells w w.slots p.0.mask p.1 (v.rows.each p.0 p.1 (row_there w e p.0 p.1 q).0)
    ] refl

-- the kinds of good cells are below 64
pub kinds_low : (w : World) (cells : List (ℕ × Cell)) → IsValid w → AreGoodCells w cells → AreKindsBelow 64 cells
kinds_low w cells v good =
    let any : Entity = record { index = 0; generation = 0 } in row_kinds_low w.schema (mask_of cells) (row_for any cells) (row_of_good w any cells good) v.schema.few

-- a live entity's kind set, and that of one that isn't alive
pub mask_is : (w : World) (e : Entity) (mask : ℕ) → IsValid w → mask_at w e ≡ Some mask → mask ≡ mask_of (cells_of w e)
mask_is w e mask v is =
    elim (home_of w e) as (λ o. home_of w e ≡ o → option_map (λ (h : Home). h.mask) o ≡ Some mask → mask ≡ mask_of (listed_cells (homed w.tables o))) [
      | None ↦ λ q m. absurd (let k : None ≡ Some mask = m in cc)
      | Some h ↦ λ q m.
          let found = home_found w.tables e h q in
          sym (same_Some h.mask mask m) ∙ sym (v.rows.each h found.row found.there).fits.kinds.kinds
          ∙ sym (ap (λ o. mask_of (listed_cells (option_map (λ (r : Row). (h, r)) o))) found.there)
    ] refl is

pub no_mask : (w : World) (e : Entity) → mask_at w e ≡ None → 0 ≡ mask_of (cells_of w e)
no_mask w e is =
    elim (home_of w e) as (λ o. option_map (λ (h : Home). h.mask) o ≡ None → 0 ≡ mask_of (listed_cells (homed w.tables o))) [
      | None ↦ λ m. refl
      | Some h ↦ λ m. absurd (let k : Some h.mask ≡ None = m in cc)
    ] is

-- a kind that moves is below 64
pub kind_low : (w : World) (e : Entity) (kind : ℕ) (cell : Cell) (inward : Bool) → IsValid w → CanMove w (cells_of w e) kind cell inward → kind < 64
kind_low w e kind cell true v can = let known = fits_known w.schema cell.value kind can.good.fits in let few = v.schema.few in omega (arith, known, few)
kind_low w e kind cell false v can =
    let known = fits_known w.schema cell.value kind (found_good w (cells_of w e) kind cell (cells_good w e v) can).fits in let few = v.schema.few in omega (arith, known, few)

-- the kind set after a shift
pub mask_with : (w : World) (e : Entity) (kind : ℕ) (cell : Cell) (mask : ℕ) → IsValid w → mask ≡ mask_of (cells_of w e) → set_with mask kind ≡ mask_of (shifted (cells_of w e) kind cell true)
mask_with w e kind cell mask v is = ap (λ m. set_with m kind) is ∙ sym (mask_of-with_cell (cells_of w e) kind cell (cells_good w e v).ascending)

pub mask_without : (w : World) (e : Entity) (kind : ℕ) (cell : Cell) (mask : ℕ) → IsValid w → mask ≡ mask_of (cells_of w e) → CanMove w (cells_of w e) kind cell false → set_without mask kind ≡ mask_of (shifted (cells_of w e) kind cell false)
mask_without w e kind cell mask v is can =
    ap (λ m. set_without m kind) is
    ∙ sym (mask_of-without_cell (cells_of w e) kind (cells_good w e v).ascending (kinds_low w (cells_of w e) v (cells_good w e v)) (kind_low w e kind cell false v can))
