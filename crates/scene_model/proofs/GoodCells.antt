-- Cells that a row may have, against the rows of a valid world, and after one came in or left.
use Rattle.std.proofs.Common.{◌≡◌, ℕ, Bool, true, false, cond, List, [], ◌∷◌, refl, sym, ◌∙◌, Some, None}
use Rattle.std.specs.List.{list_all}
use Rattle.std.specs.Ordering.{nat_cmp, eq_by_cmp}
use Rattle.std.specs.FinMap.{nat_cmp-IsAntisymmetric}
use Rattle.std.proofs.lemmas.Bool.{and_parts}
use Rattle.scene_kinds.specs.declared.entity.Entity.{Entity}
use Rattle.scene_kinds.specs.declared.cell.Cell.{Cell}
use Rattle.scene_kinds.specs.declared.cells.Row.{Row}
use Rattle.scene_kinds.specs.Cells.{cell_of, with_cell, without_cell, mask_of}
use Rattle.scene_kinds.specs.Schema.{fits_kind}
use Rattle.scene_kinds.proofs.CellLaws.{ascending-with_cell, ascending-without_cell, all-with_cell, all-without_cell}
use Rattle.scene_kinds.proofs.Maps.{equal_keys}
use Rattle.scene_alloc.specs.Slots.{SlotState}
use Rattle.scene_model.specs.World.{World}
use Rattle.scene_model.specs.Valid.{IsRowOf, IsSoundRow, is_timely}
use Rattle.scene_table.specs.Tables.{row_for}
use Rattle.scene_model.specs.Raw.{shifted}
use Rattle.scene_model.proofs.CanParts.{IsGoodCell, AreGoodCells, CanMove}

abbrev pub fits_in : World → ℕ × Cell → Bool
fits_in w c = fits_kind w.schema c.1.value c.0

abbrev pub timely_in : World → ℕ × Cell → Bool
timely_in w c = is_timely w.tick c.1

-- a cell that is found passes what all cells pass
all_found : (p : ℕ × Cell → Bool) (cells : List (ℕ × Cell)) (kind : ℕ) (c : Cell) → list_all p cells ≡ true → cell_of cells kind ≡ Some c → p (kind, c) ≡ true
all_found p [] kind c all is = absurd (let k : None ≡ Some c = is in cc)
all_found p (e ∷ es) kind c all is =
    let parts = and_parts (p e) (list_all p es) all in
    elim (eq_by_cmp nat_cmp kind e.0) as (λ b. eq_by_cmp nat_cmp kind e.0 ≡ b → cond b (Some e.1) (cell_of es kind) ≡ Some c → p (kind, c) ≡ true) [
      | true ↦ λ t g.
          let same : e.1 ≡ c = cc in
          (λ i. p (equal_keys nat_cmp-IsAntisymmetric kind e.0 t i, sym same i)) ∙ parts.0
      | false ↦ λ t g. all_found p es kind c parts.1 g
    ] refl is

-- a cell of a row that has good cells is good
pub found_good : (w : World) (cells : List (ℕ × Cell)) (kind : ℕ) (c : Cell) → AreGoodCells w cells → cell_of cells kind ≡ Some c → IsGoodCell w kind c
found_good w cells kind c good is = record {
  fits = all_found (fits_in w) cells kind c good.fit is;
  timely = all_found (timely_in w) cells kind c good.timely is;
}

-- the cells of a sound row are good
pub good_cells : (w : World) (slots : SlotState) (mask : ℕ) (row : Row) → IsSoundRow w.schema slots w.tick mask row → AreGoodCells w row.cells
good_cells w slots mask row sound = record { ascending = sound.fits.kinds.ascending; fit = sound.fits.shapes; timely = sound.timely }

-- good cells make a row of their kind set
pub row_of_good : (w : World) (e : Entity) (cells : List (ℕ × Cell)) → AreGoodCells w cells → IsRowOf w.schema (mask_of cells) (row_for e cells)
row_of_good w e cells good = record { kinds = record { ascending = good.ascending; kinds = refl }; shapes = good.fit }

-- with a good cell, or without one, they are good
pub good_with : (w : World) (cells : List (ℕ × Cell)) (kind : ℕ) (c : Cell) → AreGoodCells w cells → IsGoodCell w kind c → AreGoodCells w (with_cell cells kind c)
good_with w cells kind c good one = record {
  ascending = ascending-with_cell cells kind c good.ascending;
  fit = all-with_cell (fits_in w) cells kind c good.fit one.fits;
  timely = all-with_cell (timely_in w) cells kind c good.timely one.timely;
}

pub good_without : (w : World) (cells : List (ℕ × Cell)) (kind : ℕ) → AreGoodCells w cells → AreGoodCells w (without_cell cells kind)
good_without w cells kind good = record {
  ascending = ascending-without_cell cells kind good.ascending;
  fit = all-without_cell (fits_in w) cells kind good.fit;
  timely = all-without_cell (timely_in w) cells kind good.timely;
}

-- so are those after a cell moved
pub good_shifted : (w : World) (cells : List (ℕ × Cell)) (kind : ℕ) (c : Cell) (inward : Bool) → AreGoodCells w cells → CanMove w cells kind c inward → AreGoodCells w (shifted cells kind c inward)
good_shifted w cells kind c true good moves = good_with w cells kind c good moves.good
good_shifted w cells kind c false good moves = good_without w cells kind good
