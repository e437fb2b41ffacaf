-- The kind set of cells as a number.
use Rattle.std.proofs.Common.{◌≡◌, ◌<◌, ◌≤◌, ℕ, ◌+◌, ◌^◌, true, false, cond, not, List, [], ◌∷◌, length, get_or, take, refl, ap, sym, ◌∙◌, arith, Some, None, nat_lt}
use Rattle.std.specs.Ordering.{nat_cmp, is_eq, eq_by_cmp}
use Rattle.std.specs.declared.cmp.Ordering.TheVariants.{Less, Equal, Greater}
use Rattle.std.specs.FinMap.Entries.{put, by_order}
use Rattle.std.proofs.lemmas.List.Sums.{sum_by-cons, sum_by_more_le}
use Rattle.std.proofs.lemmas.Nat.{pow_below}
use Rattle.std.proofs.lemmas.Grind.{pow_more}
use Rattle.std.proofs.lemmas.Bool.Decides.{nat_tests}
use Rattle.std.proofs.lemmas.Bool.{and_parts}
use Rattle.scene_kinds.specs.declared.cell.Cell.{Cell}
use Rattle.scene_kinds.specs.Cells.{IsAscending, AreKindsBelow, cell_of, with_cell, without_cell, mask_of}
use Rattle.scene_kinds.proofs.CellLaws.{none_taken, first_below, rest_ascends, below_first, below_none, before_none}

-- the kind set of a cell and more cells
pub mask-cons : (e : ℕ × Cell) (es : List (ℕ × Cell)) → mask_of (e ∷ es) ≡ 2 ^ e.0 + mask_of es
mask-cons e es = sum_by-cons (λ (c : ℕ × Cell). 2 ^ c.0) e es

-- a power of two with a larger exponent is larger
pow_mono : (i j : ℕ) → i ≤ j → 2 ^ i ≤ 2 ^ j
pow_mono i j h = elim (nat_lt i j) as (λ b. nat_lt i j ≡ b → 2 ^ i ≤ 2 ^ j) [
  | true ↦ λ t. let l : i < j = grind (arith, nat_tests) in omega (arith, pow_below i j l)
  | false ↦ λ t. let e : i ≡ j = grind (arith, nat_tests) in let p : 2 ^ i ≡ 2 ^ j = ap (λ (k : ℕ). 2 ^ k) e in omega arith
] refl

-- the bits from the first kind on are below the bound's
from_first : (bound : ℕ) (e : ℕ × Cell) (es : List (ℕ × Cell)) → IsAscending (e ∷ es) → AreKindsBelow bound (e ∷ es) → mask_of (e ∷ es) + 2 ^ e.0 ≤ 2 ^ bound
from_first bound e [] h b =
    let small : nat_lt e.0 bound ≡ true = (and_parts _ _ b).0 in
    let l : e.0 + 1 ≤ bound = grind (arith, nat_tests) in
    omega (arith, mask-cons e [], pow_mono (e.0 + 1) bound l, pow_more 2 e.0)
from_first bound e (f ∷ fs) h b =
    let first = below_first e.0 f fs (first_below e (f ∷ fs) h) in
    let l : e.0 + 1 ≤ f.0 = grind (arith, nat_tests) in
    omega (arith, mask-cons e (f ∷ fs), from_first bound f fs (rest_ascends e (f ∷ fs) h) (and_parts _ _ b).1, pow_mono (e.0 + 1) f.0 l, pow_more 2 e.0)

-- the kind set of cells whose kinds are below a bound has no bit from there on
pub mask-below : (bound : ℕ) (cells : List (ℕ × Cell)) → IsAscending cells → AreKindsBelow bound cells → mask_of cells < 2 ^ bound
mask-below bound [] h b = omega (arith, pow_mono 0 bound (omega arith))
mask-below bound (e ∷ es) h b = omega (arith, from_first bound e es h b, pow_mono 0 e.0 (omega arith))

-- a cell in place of one of its kind leaves the kind set as it was
pub mask-with_cell_there : (cells : List (ℕ × Cell)) (kind : ℕ) (c d : Cell) → IsAscending cells → cell_of cells kind ≡ Some c → mask_of (with_cell cells kind d) ≡ mask_of cells
mask-with_cell_there [] kind c d h there = absurd (let e : None ≡ Some c = there in cc)
mask-with_cell_there (e ∷ es) kind c d h there =
    elim (nat_cmp kind e.0) as (λ o. nat_cmp kind e.0 ≡ o → mask_of (by_order o ((kind, d) ∷ e ∷ es) ((e.0, d) ∷ es) (e ∷ put nat_cmp kind d es)) ≡ mask_of (e ∷ es)) [
      | Less ↦ λ t. absurd (let e : None ≡ Some c = sym (before_none kind e es h t) ∙ there in cc)
      | Equal ↦ λ t. mask-cons (e.0, d) es ∙ sym (mask-cons e es)
      | Greater ↦ λ t.
          let later : cell_of es kind ≡ Some c = ap (λ o. cond (is_eq o) (Some e.1) (cell_of es kind)) (sym t) ∙ there in
          mask-cons e (put nat_cmp kind d es) ∙ ap (λ (n : ℕ). 2 ^ e.0 + n) (mask-with_cell_there es kind c d (rest_ascends e es h) later) ∙ sym (mask-cons e es)
    ] refl

-- a cell of a kind that isn't there sets the bit of its kind
pub mask-with_cell_new : (cells : List (ℕ × Cell)) (kind : ℕ) (cell : Cell) → cell_of cells kind ≡ None → mask_of (with_cell cells kind cell) ≡ mask_of cells + 2 ^ kind
mask-with_cell_new [] kind cell none = mask-cons (kind, cell) [] ∙ omega arith
mask-with_cell_new (e ∷ es) kind cell none =
    elim (nat_cmp kind e.0) as (λ o. nat_cmp kind e.0 ≡ o → mask_of (by_order o ((kind, cell) ∷ e ∷ es) ((e.0, cell) ∷ es) (e ∷ put nat_cmp kind cell es)) ≡ mask_of (e ∷ es) + 2 ^ kind) [
      | Less ↦ λ t. mask-cons (kind, cell) (e ∷ es) ∙ omega arith
      | Equal ↦ λ t. absurd (let f : Some e.1 ≡ None = ap (λ o. cond (is_eq o) (Some e.1) (cell_of es kind)) (sym t) ∙ none in cc)
      | Greater ↦ λ t.
          let later : cell_of es kind ≡ None = ap (λ o. cond (is_eq o) (Some e.1) (cell_of es kind)) (sym t) ∙ none in
          omega (arith, mask-cons e (put nat_cmp kind cell es), mask-with_cell_new es kind cell later, mask-cons e es)
    ] refl

-- a kind that is taken out clears its bit
pub mask-without_cell : (cells : List (ℕ × Cell)) (kind : ℕ) (c : Cell) → IsAscending cells → cell_of cells kind ≡ Some c → mask_of (without_cell cells kind) + 2 ^ kind ≡ mask_of cells
mask-without_cell [] kind c h there = absurd (let e : None ≡ Some c = there in cc)
mask-without_cell (e ∷ es) kind c h there =
    elim (eq_by_cmp nat_cmp kind e.0) as (λ b. eq_by_cmp nat_cmp kind e.0 ≡ b → mask_of (cond (not b) (e ∷ without_cell es kind) (without_cell es kind)) + 2 ^ kind ≡ mask_of (e ∷ es)) [
      | true ↦ λ t.
          let same : kind ≡ e.0 = grind (arith, nat_tests) in
          let none : without_cell es kind ≡ es = ap (without_cell es) same ∙ none_taken es e.0 (below_none e.0 es (first_below e es h)) in
          omega (arith, ap mask_of none, mask-cons e es, ap (λ (k : ℕ). 2 ^ k) same)
      | false ↦ λ t.
          let later : cell_of es kind ≡ Some c = ap (λ b. cond b (Some e.1) (cell_of es kind)) (sym t) ∙ there in
          omega (arith, mask-cons e (without_cell es kind), mask-without_cell es kind c (rest_ascends e es h) later, mask-cons e es)
    ] refl

-- the kind set of the cells so far and the bit of the next fit 64 bits
pub next_bit : (cells : List (ℕ × Cell)) (i : ℕ) (d : ℕ × Cell) → i < length cells → IsAscending cells → AreKindsBelow 64 cells → mask_of (take i cells) + 2 ^ (get_or cells i d).0 < 2 ^ 64
next_bit cells i d within h b = omega (arith, mask-below 64 cells h b, sum_by_more_le (λ (c : ℕ × Cell). 2 ^ c.0) cells i d within)
