-- What the tests of two kind sets by their bits say of each kind, and the kinds of a set one after another.
use Rattle.std.proofs.Common.{◌≡◌, ◌<◌, ◌≤◌, ℕ, suc, ◌+◌, ◌-◌, ◌^◌, true, false, Bool, cond, nat_eq, nat_lt, min, List, [], ◌∷◌, refl, ap, sym, ◌∙◌, arith}
use Rattle.std.specs.Prelude.{IsTrue, ◌↔◌, filter, bit_and}
use Rattle.std.specs.Int.{bit_at}
use Rattle.std.specs.List.{range_with_len}
use Rattle.std.proofs.lemmas.Bool.{eq-eqb, eqb-true}
use Rattle.std.proofs.lemmas.Bool.Decides.{nat_tests}
use Rattle.std.proofs.lemmas.Nat.Bits.{bit_at_and, bit_at-zero, bit_at-lt, bit_at_above, same_from_bits}
use Rattle.scene_kinds.specs.KindLaws.{SubsetsShareTheirKinds, DisjointSetsShareNoKind}
use Rattle.scene_kinds.specs.KindSet.{has_kind, is_subset, is_disjoint, kinds_from}

-- a kind that a set has is a bit that is set
bit : (set kind : ℕ) → has_kind set kind ≡ true → bit_at set kind ≡ 1
bit set kind h = eqb-true (bit_at set kind) 1 h

has : (n : ℕ) → n ≡ 1 → nat_eq n 1 ≡ true
has n e = eq-eqb n 1 e

hasnt : (n : ℕ) → n ≡ 0 → nat_eq n 1 ≡ false
hasnt n e = ap (λ m. nat_eq m 1) e

-- no number of 64 bits has a kind from 64 on
pub none_above : (set kind : ℕ) → set < 2 ^ 64 → 64 ≤ kind → has_kind set kind ≡ false
none_above set kind fits high = hasnt (bit_at set kind) (bit_at_above set 64 kind fits high)

-- what holds of each kind below 64 that a set has holds of each that it has
pub kinds_are_below : (set : ℕ) (P : ℕ → Type 0) → set < 2 ^ 64 → ((kind : ℕ) → kind < 64 → has_kind set kind ≡ true → P kind)
    → (kind : ℕ) → has_kind set kind ≡ true → P kind
kinds_are_below set P fits below kind h = elim (nat_lt kind 64) as (λ b. nat_lt kind 64 ≡ b → P kind) [
  | true ↦ λ t. let low : kind < 64 = grind (arith, nat_tests) in below kind low h
  | false ↦ λ t. absurd (let high : 64 ≤ kind = grind (arith, nat_tests) in let e : false ≡ true = sym (none_above set kind fits high) ∙ h in cc)
] refl

bits_in : (a b : ℕ) → a < 2 → b < 2 → (b ≡ 1 → a ≡ 1) → min a b ≡ b
bits_in a b p q h = grind arith

bits_apart : (a b : ℕ) → a < 2 → b < 2 → (a ≡ 1 → b ≡ 0) → min a b ≡ 0
bits_apart a b p q h = grind arith

no_bit : (set kind : ℕ) → has_kind set kind ≡ false → bit_at set kind ≡ 0
no_bit set kind h = small (bit_at set kind) (bit_at-lt set kind) h
  where
    small : (n : ℕ) → n < 2 → nat_eq n 1 ≡ false → n ≡ 0
    small n l e = grind (arith, nat_tests)

-- a set is a subset just where each of its kinds is in the other
pub subset_by_kinds : (set other : ℕ) → IsTrue (is_subset set other) ↔ ((kind : ℕ) → has_kind set kind ≡ true → has_kind other kind ≡ true)
subset_by_kinds set other = (says, holds)
  where
    says : IsTrue (is_subset set other) → (kind : ℕ) → has_kind set kind ≡ true → has_kind other kind ≡ true
    says t kind h = has (bit_at other kind)
        (omega (arith, bit_at_and other set kind, ap (λ n. bit_at n kind) (eqb-true (bit_and other set) set t), bit_at-lt other kind, bit set kind h))

    holds : ((kind : ℕ) → has_kind set kind ≡ true → has_kind other kind ≡ true) → IsTrue (is_subset set other)
    holds s = eq-eqb (bit_and other set) set (same_from_bits (bit_and other set) set
        (λ k. bit_at_and other set k ∙ bits_in _ _ (bit_at-lt other k) (bit_at-lt set k) (λ e. bit other k (s k (has _ e)))))

-- two sets are disjoint just where no kind of the one is in the other
pub disjoint_by_kinds : (set other : ℕ) → IsTrue (is_disjoint set other) ↔ ((kind : ℕ) → has_kind set kind ≡ true → has_kind other kind ≡ false)
disjoint_by_kinds set other = (says, holds)
  where
    says : IsTrue (is_disjoint set other) → (kind : ℕ) → has_kind set kind ≡ true → has_kind other kind ≡ false
    says t kind h = hasnt (bit_at other kind)
        (omega (arith, bit_at_and set other kind, ap (λ n. bit_at n kind) (eqb-true (bit_and set other) 0 t), bit_at-zero kind, bit_at-lt other kind, bit set kind h))

    holds : ((kind : ℕ) → has_kind set kind ≡ true → has_kind other kind ≡ false) → IsTrue (is_disjoint set other)
    holds s = eq-eqb (bit_and set other) 0 (same_from_bits (bit_and set other) 0
        (λ k. bit_at_and set other k ∙ (bits_apart _ _ (bit_at-lt set k) (bit_at-lt other k) (λ e. no_bit other k (s k (has _ e))) ∙ sym (bit_at-zero k))))

-- the same of the 64 kinds that a set can have
pub subset_law : SubsetsShareTheirKinds
subset_law set other fits =
    let all = subset_by_kinds set other in
    (λ t kind low h. all.0 t kind h, λ s. all.1 (kinds_are_below set (λ kind. has_kind other kind ≡ true) fits s))

pub disjoint_law : DisjointSetsShareNoKind
disjoint_law set other fits =
    let all = disjoint_by_kinds set other in
    (λ t kind low h. all.0 t kind h, λ s. all.1 (kinds_are_below set (λ kind. has_kind other kind ≡ false) fits s))

-- the numbers from one that is below the end on
pub range_step : (end k : ℕ) → k < end → range_with_len k (end - k) ≡ k ∷ range_with_len (k + 1) (end - (k + 1))
range_step end k h = let one : end - k ≡ suc (end - (k + 1)) = omega (arith, h) in ap (range_with_len k) one

in_filter : (p : ℕ → Bool) (k : ℕ) (ks : List ℕ) (b : Bool) → p k ≡ b → filter p (k ∷ ks) ≡ cond b (k ∷ filter p ks) (filter p ks)
in_filter p k ks b e = ap (λ c. cond c (k ∷ filter p ks) (filter p ks)) e

rest_in : (end : ℕ) (p : ℕ → Bool) (k : ℕ) → k < end → p k ≡ true
    → filter p (range_with_len k (end - k)) ≡ k ∷ filter p (range_with_len (k + 1) (end - (k + 1)))
rest_in end p k h e = ap (filter p) (range_step end k h) ∙ in_filter p k (range_with_len (k + 1) (end - (k + 1))) true e

rest_out : (end : ℕ) (p : ℕ → Bool) (k : ℕ) → k < end → p k ≡ false
    → filter p (range_with_len k (end - k)) ≡ filter p (range_with_len (k + 1) (end - (k + 1)))
rest_out end p k h e = ap (filter p) (range_step end k h) ∙ in_filter p k (range_with_len (k + 1) (end - (k + 1))) false e

rest_none : (end : ℕ) (p : ℕ → Bool) (k : ℕ) → end ≤ k → filter p (range_with_len k (end - k)) ≡ []
rest_none end p k h = let none : end - k ≡ 0 = omega (arith, h) in ap (λ n. filter p (range_with_len k n)) none

-- a kind that is in the set comes first
pub kind_in : (set k : ℕ) → k < 64 → has_kind set k ≡ true → kinds_from set k ≡ k ∷ kinds_from set (k + 1)
unfolding kinds_from
kind_in set k h e = rest_in 64 (has_kind set) k h e

-- and one that isn't is left out
pub kind_out : (set k : ℕ) → k < 64 → has_kind set k ≡ false → kinds_from set k ≡ kinds_from set (k + 1)
unfolding kinds_from
kind_out set k h e = rest_out 64 (has_kind set) k h e

-- no kinds are left from 64 on
pub kinds_end : (set k : ℕ) → 64 ≤ k → kinds_from set k ≡ []
unfolding kinds_from
kinds_end set k h = rest_none 64 (has_kind set) k h
