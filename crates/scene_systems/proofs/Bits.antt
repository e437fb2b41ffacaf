-- What the match of a filter says of each kind.
use Rattle.std.proofs.Common.{◌≡◌, ℕ, Bool, true, false, ◌&&◌, nat_eq, refl, ap, sym, ◌∙◌}
use Rattle.std.specs.Prelude.{IsTrue, ◌↔◌, bit_and}
use Rattle.std.specs.Int.Bits.{and_zero_r}
use Rattle.std.proofs.lemmas.Bool.{and_parts, and_from, eq-eqb}
use Rattle.scene_kinds.specs.KindSet.{has_kind, is_subset, is_disjoint}
use Rattle.scene_kinds.proofs.Subsets.{subset_by_kinds, disjoint_by_kinds}
use Rattle.scene_systems.specs.declared.filter.Filter.{Filter}
use Rattle.scene_systems.specs.Filter.{is_match, SaysEachKind}

-- two tests of numbers that hold
both_equal : (a b c d : ℕ) → a ≡ b → c ≡ d → (nat_eq a b && nat_eq c d) ≡ true
both_equal a b c d p q = and_from (nat_eq a b) (nat_eq c d) (eq-eqb a b p) (eq-eqb c d q)

-- a filter that asks for nothing matches every kind set
pub nothing_asked : (f : Filter) → f.need ≡ 0 → f.without ≡ 0 → (mask : ℕ) → is_match f mask ≡ true
nothing_asked f need without mask =
    both_equal _ _ _ _ (ap (bit_and mask) need ∙ (and_zero_r mask ∙ sym need)) (ap (bit_and mask) without ∙ and_zero_r mask)

-- what is false isn't true, and the other way round
not_both : (b : Bool) → b ≡ false → b ≡ true → ⊥
not_both b p q = absurd (let e : false ≡ true = sym p ∙ q in cc)

not_true : (b : Bool) → (b ≡ true → ⊥) → b ≡ false
not_true true h = absurd (h refl)
not_true false h = refl

-- a filter matches just where it says so of each kind
pub each_kind : (f : Filter) (mask : ℕ) → IsTrue (is_match f mask) ↔ SaysEachKind f mask
each_kind f mask = (says, holds)
  where
    says : IsTrue (is_match f mask) → SaysEachKind f mask
    says t kind =
        let parts = and_parts _ _ t in
        ((subset_by_kinds f.need mask).0 parts.0 kind, λ h g. not_both (has_kind f.without kind) ((disjoint_by_kinds mask f.without).0 parts.1 kind g) h)

    holds : SaysEachKind f mask → IsTrue (is_match f mask)
    holds s = and_from (is_subset f.need mask) (is_disjoint mask f.without)
        ((subset_by_kinds f.need mask).1 (λ k. (s k).0))
        ((disjoint_by_kinds mask f.without).1 (λ k g. not_true (has_kind f.without k) (λ h. (s k).1 h g)))
