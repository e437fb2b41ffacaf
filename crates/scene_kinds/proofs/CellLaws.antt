-- Laws of cells that are put in and taken out.
use Rattle.std.proofs.Common.{◌≡◌, ℕ, Bool, true, false, cond, not, T, List, [], ◌∷◌, refl, ap, sym, ◌∙◌, arith, Some, None}
use Rattle.std.specs.List.{list_all}
use Rattle.std.specs.Ordering.{nat_cmp, eq_by_cmp, is_lt, is_eq}
use Rattle.std.specs.declared.cmp.Ordering.TheVariants.{Less, Equal, Greater}
use Rattle.std.specs.FinMap.Entries.{put, by_order, below_all, is_sorted, is_sorted-put, is_sorted-where_key, find-put}
use Rattle.std.proofs.lemmas.Bool.Decides.{nat_tests}
use Rattle.std.proofs.lemmas.Cmp.{nat_cmp_total}
use Rattle.std.proofs.lemmas.Bool.{and_parts}
use Rattle.std.specs.Cmp.Derive.{both_true}
use Rattle.scene_kinds.specs.declared.cell.Cell.{Cell}
use Rattle.scene_kinds.specs.Cells.{IsAscending, cell_of, with_cell, without_cell}
use Rattle.scene_kinds.proofs.Maps.{find-without}
use Rattle.scene_kinds.proofs.Choices.{test_parts, less}

-- cells that ascend still do with a cell put in
pub ascending-with_cell : (cells : List (ℕ × Cell)) (kind : ℕ) (cell : Cell) → IsAscending cells → IsAscending (with_cell cells kind cell)
ascending-with_cell cells kind cell h = is_sorted-put nat_cmp nat_cmp_total kind cell cells h

-- and without the cell of a kind
pub ascending-without_cell : (cells : List (ℕ × Cell)) (kind : ℕ) → IsAscending cells → IsAscending (without_cell cells kind)
ascending-without_cell cells kind h = is_sorted-where_key nat_cmp (λ k. not (eq_by_cmp nat_cmp kind k)) cells h

-- the cell of a kind after a cell was put in
pub cell_of-with_cell : (cells : List (ℕ × Cell)) (kind : ℕ) (cell : Cell) (q : ℕ) → cell_of (with_cell cells kind cell) q ≡ cond (eq_by_cmp nat_cmp q kind) (Some cell) (cell_of cells q)
cell_of-with_cell cells kind cell q = find-put nat_cmp nat_cmp_total q kind cell cells

-- the cell of a kind after a kind was taken out
pub cell_of-without_cell : (cells : List (ℕ × Cell)) (kind q : ℕ) → cell_of (without_cell cells kind) q ≡ cond (eq_by_cmp nat_cmp q kind) None (cell_of cells q)
cell_of-without_cell cells kind q = find-without nat_cmp_total kind q cells

-- what is true of all cells, and of one that is put in, is true of all that are there then
pub all-with_cell : (p : ℕ × Cell → Bool) (cells : List (ℕ × Cell)) (kind : ℕ) (cell : Cell) → list_all p cells ≡ true → p (kind, cell) ≡ true → list_all p (with_cell cells kind cell) ≡ true
all-with_cell p [] kind cell h here = both_true here refl
all-with_cell p (e ∷ es) kind cell h here =
    let parts = and_parts _ _ h in
    elim (nat_cmp kind e.0) as (λ o. nat_cmp kind e.0 ≡ o → list_all p (by_order o ((kind, cell) ∷ e ∷ es) ((e.0, cell) ∷ es) (e ∷ put nat_cmp kind cell es)) ≡ true) [
      | Less ↦ λ _. both_true here h
      | Equal ↦ λ t.
          let s : kind ≡ e.0 = grind (arith, nat_tests) in
          both_true (ap (λ (k : ℕ). p (k, cell)) (sym s) ∙ here) parts.1
      | Greater ↦ λ _. both_true parts.0 (all-with_cell p es kind cell parts.1 here)
    ] refl

-- what is true of all cells is true of those that are left
pub all-without_cell : (p : ℕ × Cell → Bool) (cells : List (ℕ × Cell)) (kind : ℕ) → list_all p cells ≡ true → list_all p (without_cell cells kind) ≡ true
all-without_cell p [] kind h = refl
all-without_cell p (e ∷ es) kind h =
    let parts = and_parts _ _ h in
    let rest = all-without_cell p es kind parts.1 in
    elim (not (eq_by_cmp nat_cmp kind e.0)) as (λ b. list_all p (cond b (e ∷ without_cell es kind) (without_cell es kind)) ≡ true) [
      | true ↦ both_true parts.0 rest
      | false ↦ rest
    ]

-- a kind that isn't there is taken out by nothing
pub none_taken : (cells : List (ℕ × Cell)) (kind : ℕ) → cell_of cells kind ≡ None → without_cell cells kind ≡ cells
none_taken [] kind h = refl
none_taken (e ∷ es) kind h =
    elim (eq_by_cmp nat_cmp kind e.0) as (λ b. cond b (Some e.1) (cell_of es kind) ≡ None → cond (not b) (e ∷ without_cell es kind) (without_cell es kind) ≡ e ∷ es) [
      | true ↦ λ g. absurd (let f : Some e.1 ≡ None = g in cc)
      | false ↦ λ g. ap (e ∷◌) (none_taken es kind g)
    ] h

-- the first kind is below all others
pub first_below : (e : ℕ × Cell) (es : List (ℕ × Cell)) → IsAscending (e ∷ es) → T (below_all nat_cmp e.0 es)
first_below e es h = (test_parts (below_all nat_cmp e.0 es) (is_sorted nat_cmp es) h).0

-- the others ascend
pub rest_ascends : (e : ℕ × Cell) (es : List (ℕ × Cell)) → IsAscending (e ∷ es) → IsAscending es
rest_ascends e es h = (test_parts (below_all nat_cmp e.0 es) (is_sorted nat_cmp es) h).1

-- a kind below all is below the first
pub below_first : (kind : ℕ) (e : ℕ × Cell) (es : List (ℕ × Cell)) → T (below_all nat_cmp kind (e ∷ es)) → nat_cmp kind e.0 ≡ Less
below_first kind e es h = less _ (test_parts (is_lt (nat_cmp kind e.0)) (below_all nat_cmp kind es) h).0

-- and below the others
pub below_rest : (kind : ℕ) (e : ℕ × Cell) (es : List (ℕ × Cell)) → T (below_all nat_cmp kind (e ∷ es)) → T (below_all nat_cmp kind es)
below_rest kind e es h = (test_parts (is_lt (nat_cmp kind e.0)) (below_all nat_cmp kind es) h).1

-- a kind below all that are there isn't there
pub below_none : (kind : ℕ) (cells : List (ℕ × Cell)) → T (below_all nat_cmp kind cells) → cell_of cells kind ≡ None
below_none kind [] h = refl
below_none kind (e ∷ es) h =
    ap (λ r. cond (is_eq r) (Some e.1) (cell_of es kind)) (below_first kind e es h) ∙ below_none kind es (below_rest kind e es h)

-- a kind below the first of ascending cells isn't there
pub before_none : (kind : ℕ) (e : ℕ × Cell) (es : List (ℕ × Cell)) → IsAscending (e ∷ es) → nat_cmp kind e.0 ≡ Less → cell_of (e ∷ es) kind ≡ None
before_none kind e [] h t = ap (λ r. cond (is_eq r) (Some e.1) None) t
before_none kind e (f ∷ fs) h t =
    let first = below_first e.0 f fs (first_below e (f ∷ fs) h) in
    let onward : nat_cmp kind f.0 ≡ Less = grind (arith, nat_tests) in
    ap (λ r. cond (is_eq r) (Some e.1) (cell_of (f ∷ fs) kind)) t ∙ before_none kind f fs (rest_ascends e (f ∷ fs) h) onward
