-- Kinds that ascend, each told from the one before it.
use Rattle.std.proofs.Common.{◌≡◌, ℕ, ◌+◌, ◌<◌, ◌≤◌, Bool, true, false, List, [], ◌∷◌, refl, ap, sym, ◌∙◌, arith, length, nat_lt, nat_eq, cond, drop, get_or, length}
use Rattle.std.specs.Prelude.{◌&&◌, nat_le}
use Rattle.std.specs.declared.cmp.Ordering.TheVariants.{Less, Equal, Greater}
use Rattle.std.specs.Ordering.{nat_cmp, is_lt}
use Rattle.std.specs.List.{list_all}
use Rattle.std.specs.FinMap.Entries.{is_sorted, below_all}
use Rattle.std.proofs.lemmas.Bool.{ltb-true, lt-ltb, leb-true, le-leb, lt-leb}
use Rattle.std.proofs.lemmas.List.{at_drop_more, at_drop_all}
use Rattle.scene_kinds.specs.declared.cell.Cell.{Cell}
use Rattle.scene_kinds.specs.declared.cells.Row.{Row}
use Rattle.scene_kinds.specs.Cells.{AreKindsBelow, mask_of}
use Rattle.scene_kinds.specs.Schema.{Kinds, IsSchema, fits_kind}
use Rattle.scene_model.proofs.RowKinds.{row_kinds_low}
use Rattle.scene_validate.proofs.RowRules.{passes}
use Rattle.scene_validate.proofs.Tests.{and_is, and_of, same_tests}

-- the first kind is at least some number, and each later one is above the one before it
abbrev pub rises : ℕ → List (ℕ × Cell) → Bool
rises n [] = true
rises n (e ∷ es) = nat_le n e.0 && rises (e.0 + 1) es

less_is : (n k : ℕ) → is_lt (nat_cmp n k) ≡ true → n < k
less_is n k h = elim (nat_lt n k) as (λ b. nat_lt n k ≡ b → is_lt (cond b Less (cond (nat_eq n k) Equal Greater)) ≡ true → n < k) [
  | true ↦ λ e g. ltb-true n k e
  | false ↦ λ e g. elim (nat_eq n k) as (λ b. is_lt (cond b Equal Greater) ≡ true → n < k) [ true ↦ λ f. absurd (let k : false ≡ true = f in cc) | false ↦ λ f. absurd (let k : false ≡ true = f in cc) ] g
] refl h

less_of : (n k : ℕ) → n < k → is_lt (nat_cmp n k) ≡ true
less_of n k l = ap (λ b. is_lt (cond b Less (cond (nat_eq n k) Equal Greater))) (lt-ltb n k l)

below_less : (n k : ℕ) (es : List (ℕ × Cell)) → n < k → below_all nat_cmp k es ≡ true → below_all nat_cmp n es ≡ true
below_less n k [] l h = refl
below_less n k (e ∷ es) l h =
    let p = and_is (is_lt (nat_cmp k e.0)) (below_all nat_cmp k es) h in
    let m : k < e.0 = less_is k e.0 p.0 in
    and_of (is_lt (nat_cmp n e.0)) (below_all nat_cmp n es) (less_of n e.0 (omega arith)) (below_less n k es l p.1)

pub rises_above : (n : ℕ) (es : List (ℕ × Cell)) → rises (n + 1) es ≡ (below_all nat_cmp n es && is_sorted nat_cmp es)
rises_above n [] = refl
rises_above n (e ∷ es) = same_tests _ _
    (λ h.
    let p = and_is (nat_le (n + 1) e.0) (rises (e.0 + 1) es) h in
    let r : (below_all nat_cmp e.0 es && is_sorted nat_cmp es) ≡ true = sym (rises_above e.0 es) ∙ p.1 in
    let q = and_is (below_all nat_cmp e.0 es) (is_sorted nat_cmp es) r in
    let m : n + 1 ≤ e.0 = leb-true (n + 1) e.0 p.0 in
    let l : n < e.0 = omega arith in
    and_of (is_lt (nat_cmp n e.0) && below_all nat_cmp n es) (below_all nat_cmp e.0 es && is_sorted nat_cmp es)
    (and_of (is_lt (nat_cmp n e.0)) (below_all nat_cmp n es) (less_of n e.0 l) (below_less n e.0 es l q.0)) r)
    (λ h.
    let p = and_is (is_lt (nat_cmp n e.0) && below_all nat_cmp n es) (below_all nat_cmp e.0 es && is_sorted nat_cmp es) h in
    let q = and_is (is_lt (nat_cmp n e.0)) (below_all nat_cmp n es) p.0 in
    let l : n < e.0 = less_is n e.0 q.0 in
    and_of (nat_le (n + 1) e.0) (rises (e.0 + 1) es) (le-leb (n + 1) e.0 (omega arith)) (rises_above e.0 es ∙ p.1))

-- they strictly ascend
pub rises_sorted : (es : List (ℕ × Cell)) → rises 0 es ≡ is_sorted nat_cmp es
rises_sorted [] = refl
rises_sorted (e ∷ es) = ap (λ b. b && rises (e.0 + 1) es) (le-leb 0 e.0 (omega arith)) ∙ rises_above e.0 es

-- a kind that is below what may come
pub falls_back : (n i : ℕ) (e : ℕ × Cell) (es : List (ℕ × Cell)) → rises n (drop i es) ≡ rises 0 es → i < length es → e ≡ get_or es i e → e.0 < n → false ≡ is_sorted nat_cmp es
falls_back n i e es h l is low =
    ap (λ b. b && rises (e.0 + 1) (drop (i + 1) es)) (sym (lt-leb n e.0 low)) ∙ ap (λ (d : ℕ × Cell). rises n (d ∷ drop (i + 1) es)) is
    ∙ sym (at_drop_more (rises n) es i e l) ∙ h ∙ rises_sorted es

pub rise_all : (n i : ℕ) (es : List (ℕ × Cell)) → rises n (drop i es) ≡ rises 0 es → length es ≤ i → true ≡ is_sorted nat_cmp es
rise_all n i es h l = sym (at_drop_all (rises n) es i l) ∙ h ∙ rises_sorted es

-- ---- kinds of a schema

-- the kinds of cells that fit a schema are below 64
pub fits_low : (schema : Kinds) (row : Row) → IsSchema schema → is_sorted nat_cmp row.cells ≡ true → list_all (λ c. fits_kind schema c.1.value c.0) row.cells ≡ true → AreKindsBelow 64 row.cells
fits_low schema row sound sorted fits = row_kinds_low schema (mask_of row.cells) row (record {
  kinds = record { ascending = passes (is_sorted nat_cmp row.cells) sorted; kinds = refl };
  shapes = fits;
}) sound.few
