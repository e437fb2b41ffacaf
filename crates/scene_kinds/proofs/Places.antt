-- The place at which the search for a kind ends, and the cell that stands there.
use Rattle.std.proofs.Common.{◌≡◌, ℕ, zero, suc, ◌<◌, Bool, true, false, cond, List, [], ◌∷◌, length, refl, ap, subst, sym, ◌∙◌, arith, Option, Some, None, nat_eq}
use Rattle.std.specs.Prelude.{IfNone, IfSome, slice_set, get_or, T}
use Rattle.std.specs.List.{position_from}
use Rattle.std.proofs.lemmas.Bool.{eqb-true}
use Rattle.std.proofs.lemmas.Bool.Decides.{nat_tests}
use Rattle.std.proofs.lemmas.Cmp.{ranked}
use Rattle.std.specs.Ordering.{nat_cmp, eq_by_cmp}
use Rattle.std.specs.Cmp.{nat_cmp_is}
use Rattle.std.specs.FinMap.Entries.{put, by_order, below_all}
use Rattle.std.specs.declared.cmp.Ordering.TheVariants.{Less, Equal, Greater}
use Rattle.scene_kinds.specs.declared.cell.Cell.{Cell}
use Rattle.scene_kinds.specs.Cells.{IsAscending, cell_of, with_cell, IsPlaceOf}
use Rattle.scene_kinds.proofs.Choices.{test_parts, less}
use Rattle.scene_kinds.proofs.Positions.{found, missed}

-- the order of numbers tells two apart as equality does
pub eq_by_cmp-nat_eq : (a b : ℕ) → eq_by_cmp nat_cmp a b ≡ nat_eq a b
eq_by_cmp-nat_eq a b = grind (arith, nat_tests)

-- what the test of the search says of a first cell
passed : (kind : ℕ) (e : ℕ × Cell) (es : List (ℕ × Cell)) (b : Bool) → nat_eq kind e.0 ≡ b → cell_of (e ∷ es) kind ≡ cond b (Some e.1) (cell_of es kind)
passed kind e es b t = ap (λ c. cond c (Some e.1) (cell_of es kind)) (eq_by_cmp-nat_eq kind e.0 ∙ t)

-- no place, no cell
no_place : (kind : ℕ) (cells : List (ℕ × Cell)) → position_from (λ (e : ℕ × Cell). nat_eq kind e.0) 0 cells ≡ None → cell_of cells kind ≡ None
no_place kind cells h = missed (λ (e : ℕ × Cell). nat_eq kind e.0) (λ cs. cell_of cs kind ≡ None) refl (λ e es t none. passed kind e es false t ∙ none) cells h

-- where a search from the front ends, the cell stands
found_place : (kind : ℕ) (cells : List (ℕ × Cell)) (i : ℕ) → position_from (λ (e : ℕ × Cell). nat_eq kind e.0) 0 cells ≡ Some i → IsPlaceOf cells kind i
found_place kind cells i h = found (λ (e : ℕ × Cell). nat_eq kind e.0) (λ cs at. IsPlaceOf cs kind at)
    (λ e es t. record { within = omega arith; found = λ d. passed kind e es true t; key = λ d. sym (eqb-true kind e.0 t) })
    (λ e es k t p. record { within = let l : k < length es = p.within in omega arith; found = λ d. passed kind e es false t ∙ p.found d; key = λ d. p.key d }) cells i h

pub none_placed : (kind : ℕ) (cells : List (ℕ × Cell)) (r : Option ℕ) → r ≡ position_from (λ (e : ℕ × Cell). nat_eq kind e.0) 0 cells → IfNone r (cell_of cells kind ≡ None)
none_placed kind cells None e = no_place kind cells (sym e)
none_placed kind cells (Some i) e = tt

pub some_placed : (kind : ℕ) (cells : List (ℕ × Cell)) (r : Option ℕ) → r ≡ position_from (λ (e : ℕ × Cell). nat_eq kind e.0) 0 cells → IfSome r (IsPlaceOf cells kind)
some_placed kind cells None e = tt
some_placed kind cells (Some i) e = found_place kind cells i (sym e)

-- a key that is below each key of a list is below the one at a place
below_at : (x : ℕ) (cells : List (ℕ × Cell)) (i : ℕ) (d : ℕ × Cell) → T (below_all nat_cmp x cells) → i < length cells → x < (get_or cells i d).0
below_at x [] i d h within = absurd (omega arith)
below_at x (e ∷ es) zero d h within = ranked x e.0 Less (sym (less _ (test_parts _ _ h).0))
below_at x (e ∷ es) (suc i) d h within = below_at x es i d (test_parts _ _ h).1 (omega arith)

-- where kinds ascend, a cell put at its kind is written where that kind stands
pub put_at_place : (cells : List (ℕ × Cell)) (kind i : ℕ) (cell : Cell) (d : ℕ × Cell) → IsAscending cells → i < length cells → (get_or cells i d).0 ≡ kind → slice_set cells i ((get_or cells i d).0, cell) ≡ with_cell cells kind cell
put_at_place [] kind i cell d up within is = absurd (omega arith)
put_at_place (e ∷ es) kind zero cell d up within is =
    ap (λ o. by_order o ((kind, cell) ∷ e ∷ es) ((e.0, cell) ∷ es) (e ∷ put nat_cmp kind cell es)) (nat_cmp_is kind e.0 Equal (sym is))
put_at_place (e ∷ es) kind (suc i) cell d up within is =
    let later : e.0 < kind = subst (λ k. e.0 < k) is (below_at e.0 es i d (test_parts _ _ up).0 (omega arith)) in
    ap (λ t. e ∷ t) (put_at_place es kind i cell d (test_parts _ _ up).1 (omega arith) is)
    ∙ ap (λ o. by_order o ((kind, cell) ∷ e ∷ es) ((e.0, cell) ∷ es) (e ∷ put nat_cmp kind cell es)) (nat_cmp_is kind e.0 Greater later)
