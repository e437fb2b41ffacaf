-- Cells after one came in, left or was set, and back again.
use Rattle.std.proofs.Common.{◌≡◌, ℕ, Bool, true, false, not, cond, List, refl, ap, sym, ◌∙◌, arith, Option, Some, None}
use Rattle.std.specs.Ordering.{nat_cmp, eq_by_cmp}
use Rattle.std.specs.Cmp.{nat_cmp_total}
use Rattle.std.specs.FinMap.{nat_cmp-IsAntisymmetric}
use Rattle.std.specs.FinMap.Entries.{same_entries}
use Rattle.std.proofs.lemmas.Nat.{pow_pos}
use Rattle.scene_kinds.specs.declared.cell.Cell.{Cell}
use Rattle.scene_kinds.specs.Cells.{IsAscending, cell_of, with_cell, without_cell, mask_of}
use Rattle.scene_kinds.proofs.Choices.{absorbed}
use Rattle.scene_kinds.proofs.Maps.{equal_keys, ties_itself}
use Rattle.scene_kinds.proofs.CellLaws.{ascending-with_cell, ascending-without_cell, cell_of-with_cell, cell_of-without_cell}
use Rattle.scene_kinds.proofs.Masks.{mask-with_cell_new, mask-without_cell}
use Rattle.scene_model.specs.Raw.{shifted}

-- cells that ascend are equal where each kind has one cell in both
pub same_cells : (xs ys : List (ℕ × Cell)) → IsAscending xs → IsAscending ys → ((q : ℕ) → cell_of xs q ≡ cell_of ys q) → xs ≡ ys
same_cells xs ys a b is = same_entries nat_cmp nat_cmp_total nat_cmp-IsAntisymmetric xs ys a b is

-- what a kind has, and every other kind as before, is what all have
own_cell : (cells : List (ℕ × Cell)) (kind : ℕ) (o : Option Cell) (q : ℕ) → cell_of cells kind ≡ o → cond (eq_by_cmp nat_cmp q kind) o (cell_of cells q) ≡ cell_of cells q
own_cell cells kind o q is =
    elim (eq_by_cmp nat_cmp q kind) as (λ b. eq_by_cmp nat_cmp q kind ≡ b → cond b o (cell_of cells q) ≡ cell_of cells q) [
      | true ↦ λ e. sym is ∙ ap (cell_of cells) (sym (equal_keys nat_cmp-IsAntisymmetric q kind e))
      | false ↦ λ e. refl
    ] refl

-- the cell of a kind that was put in
pub cell_put : (cells : List (ℕ × Cell)) (kind : ℕ) (c : Cell) → cell_of (with_cell cells kind c) kind ≡ Some c
cell_put cells kind c = cell_of-with_cell cells kind c kind ∙ ap (λ b. cond b (Some c) (cell_of cells kind)) (ties_itself nat_cmp_total kind)

-- a kind that was taken out has none
pub cell_gone : (cells : List (ℕ × Cell)) (kind : ℕ) → cell_of (without_cell cells kind) kind ≡ None
cell_gone cells kind = cell_of-without_cell cells kind kind ∙ ap (λ b. cond b None (cell_of cells kind)) (ties_itself nat_cmp_total kind)

-- a cell that was set, and set to what it was
pub cell_reset : (cells : List (ℕ × Cell)) (kind : ℕ) (before after : Cell) → IsAscending cells → cell_of cells kind ≡ Some before → with_cell (with_cell cells kind after) kind before ≡ cells
cell_reset cells kind before after rising is =
    same_cells _ cells (ascending-with_cell (with_cell cells kind after) kind before (ascending-with_cell cells kind after rising)) rising (λ q.
    cell_of-with_cell (with_cell cells kind after) kind before q
    ∙ ap (cond (eq_by_cmp nat_cmp q kind) (Some before)) (cell_of-with_cell cells kind after q)
    ∙ absorbed (eq_by_cmp nat_cmp q kind) (Some before) (Some after) (cell_of cells q)
    ∙ own_cell cells kind (Some before) q is)

-- a cell that came in, and left
pub cell_taken_back : (cells : List (ℕ × Cell)) (kind : ℕ) (c : Cell) → IsAscending cells → cell_of cells kind ≡ None → without_cell (with_cell cells kind c) kind ≡ cells
cell_taken_back cells kind c rising is =
    same_cells _ cells (ascending-without_cell (with_cell cells kind c) kind (ascending-with_cell cells kind c rising)) rising (λ q.
    cell_of-without_cell (with_cell cells kind c) kind q
    ∙ ap (cond (eq_by_cmp nat_cmp q kind) None) (cell_of-with_cell cells kind c q)
    ∙ absorbed (eq_by_cmp nat_cmp q kind) None (Some c) (cell_of cells q)
    ∙ own_cell cells kind None q is)

-- a cell that left, and came in
pub cell_given_back : (cells : List (ℕ × Cell)) (kind : ℕ) (c : Cell) → IsAscending cells → cell_of cells kind ≡ Some c → with_cell (without_cell cells kind) kind c ≡ cells
cell_given_back cells kind c rising is =
    same_cells _ cells (ascending-with_cell (without_cell cells kind) kind c (ascending-without_cell cells kind rising)) rising (λ q.
    cell_of-with_cell (without_cell cells kind) kind c q
    ∙ ap (cond (eq_by_cmp nat_cmp q kind) (Some c)) (cell_of-without_cell cells kind q)
    ∙ absorbed (eq_by_cmp nat_cmp q kind) (Some c) None (cell_of cells q)
    ∙ own_cell cells kind (Some c) q is)

-- whether the cell is there
abbrev pub HasMoved : List (ℕ × Cell) → ℕ → Cell → Bool → Type 0
HasMoved cells kind c true = cell_of cells kind ≡ None
HasMoved cells kind c false = cell_of cells kind ≡ Some c

-- a cell that moved one way may move the other
pub moved_cell : (cells : List (ℕ × Cell)) (kind : ℕ) (c : Cell) (inward : Bool) → HasMoved (shifted cells kind c inward) kind c (not inward)
moved_cell cells kind c true = cell_put cells kind c
moved_cell cells kind c false = cell_gone cells kind

-- and that gives the cells from before
pub shifted_back : (cells : List (ℕ × Cell)) (kind : ℕ) (c : Cell) (inward : Bool) → IsAscending cells → HasMoved cells kind c inward → shifted (shifted cells kind c inward) kind c (not inward) ≡ cells
shifted_back cells kind c true rising is = cell_taken_back cells kind c rising is
shifted_back cells kind c false rising is = cell_given_back cells kind c rising is

-- the kind set is another one
pub shifted_mask : (cells : List (ℕ × Cell)) (kind : ℕ) (c : Cell) (inward : Bool) → IsAscending cells → HasMoved cells kind c inward → mask_of (shifted cells kind c inward) ≡ mask_of cells → ⊥
shifted_mask cells kind c true rising is same = omega (arith, mask-with_cell_new cells kind c is, pow_pos kind)
shifted_mask cells kind c false rising is same = omega (arith, mask-without_cell cells kind c rising is, pow_pos kind)
