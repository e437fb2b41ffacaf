-- Lists of keys with lists, and the maps that they make: what is found under a key, facts of each element, and elements
-- that differ.
use Rattle.std.proofs.Common.{◌≡◌, ℕ, Bool, true, false, cond, List, [], ◌∷◌, refl, ap, sym, subst, ◌∙◌, Some, None}
use Rattle.std.specs.Prelude.{slice_get, ◌||◌, ◌&&◌}
use Rattle.std.specs.declared.cmp.Ordering.{Ordering}
use Rattle.std.specs.Ordering.{eq_by_cmp}
use Rattle.std.specs.Cmp.{IsTotalOrder}
use Rattle.std.specs.FinMap.{IsAntisymmetric}
use Rattle.std.specs.List.{list_all, list_any, AllByRecursion, IsDistinct}
use Rattle.std.proofs.lemmas.Bool.{or_cases, or_left, or_right}
use Rattle.std.proofs.lemmas.List.Folds.{list_all-append, list_any-append}
use Rattle.std.proofs.Common.{inl, inr}
use Rattle.scene_kinds.specs.Lists.{list_at}
use Rattle.scene_kinds.proofs.Maps.{equal_keys, ties_itself}
use Rattle.scene_kinds.proofs.Lists.{list_at-with_list}
use Rattle.scene_validate.specs.Parts.{keys, map_of}
use Rattle.scene_validate.specs.Rules.{flat}
use Rattle.scene_validate.proofs.Tests.{and_is, all_is, all_of, at_place, from_places, any_is, any_of}

module _ {K X : Type 0} (R : K → K → Ordering) where
  -- the list of the first key that ties
  abbrev pub listed_in : List (K × List X) → K → List X
  listed_in [] k = []
  listed_in (e ∷ es) k = cond (eq_by_cmp R k e.0) e.1 (listed_in es k)

module _ {K X : Type 0} {R : K → K → Ordering} (o : IsTotalOrder R) where
  -- it is what the map has
  pub list_at-map_of : (es : List (K × List X)) (k : K) → list_at (map_of o es) k ≡ listed_in R es k
  list_at-map_of [] k = refl
  list_at-map_of (e ∷ es) k = list_at-with_list o (map_of o es) e.0 e.1 k ∙ ap (cond (eq_by_cmp R k e.0) e.1) (list_at-map_of es k)

-- a fact of each element of the lists, with its key
abbrev pub EachIn : {K X : Type 0} → (K → X → Type 0) → List (K × List X) → Type 0
EachIn Q es = AllByRecursion (λ e. AllByRecursion (Q e.0) e.1) es

-- a test of all lists in a row
pub flat_is : {K X : Type 0} (t : X → Bool) (es : List (K × List X)) → list_all t (flat es) ≡ true → EachIn (λ k x. t x ≡ true) es
flat_is t [] h = tt
flat_is t (e ∷ es) h = let k = and_is (list_all t e.1) (list_all t (flat es)) (sym (list_all-append t e.1 (flat es)) ∙ h) in (all_is t e.1 k.0, flat_is t es k.1)

pub flat_of : {K X : Type 0} (t : X → Bool) (es : List (K × List X)) → EachIn (λ k x. t x ≡ true) es → list_all t (flat es) ≡ true
flat_of t [] h = refl
flat_of t (e ∷ es) h = list_all-append t e.1 (flat es) ∙ ap (λ b. b && list_all t (flat es)) (all_of t e.1 h.0) ∙ flat_of t es h.1

module _ {K X : Type 0} {R : K → K → Ordering} (o : IsTotalOrder R) (exact : IsAntisymmetric R) where
  -- a key that ties with none has an empty list
  pub listed_nowhere : (es : List (K × List X)) (k : K) → AllByRecursion (λ j. eq_by_cmp R k j ≡ false) (keys es) → listed_in R es k ≡ []
  listed_nowhere [] k h = refl
  listed_nowhere (e ∷ es) k h = ap (λ b. cond b e.1 (listed_in R es k)) h.0 ∙ listed_nowhere es k h.1

  -- the first entry's list
  pub listed_first : (e : K × List X) (es : List (K × List X)) → listed_in R (e ∷ es) e.0 ≡ e.1
  listed_first e es = ap (λ b. cond b e.1 (listed_in R es e.0)) (ties_itself o e.0)

  -- what is found in the rest is found in the whole, where keys differ
  pub listed_rest : (e : K × List X) (es : List (K × List X)) (k : K) (p : ℕ) (x : X) → IsDistinct (eq_by_cmp R) (keys (e ∷ es)) → slice_get (listed_in R es k) p ≡ Some x → (eq_by_cmp R k e.0 ≡ false) × (slice_get (listed_in R (e ∷ es) k) p ≡ Some x)
  unfolding IsDistinct
  listed_rest e es k p x d h = elim (eq_by_cmp R k e.0) as (λ b. eq_by_cmp R k e.0 ≡ b → (b ≡ false) × (slice_get (cond b e.1 (listed_in R es k)) p ≡ Some x)) [
    | true ↦ λ t.
        let s : k ≡ e.0 = equal_keys exact k e.0 t in
        let n : listed_in R es k ≡ [] = listed_nowhere es k (subst (λ j. AllByRecursion (λ i. eq_by_cmp R j i ≡ false) (keys es)) (sym s) d.0) in
        absurd (let g : None ≡ Some x = sym (ap (λ xs. slice_get xs p) n) ∙ h in cc)
    | false ↦ λ t. (refl, h)
  ] refl

  -- a fact of each element, and of what is found under a key
  pub each_listed : (Q : K → X → Type 0) (es : List (K × List X)) → EachIn Q es → (k : K) (p : ℕ) (x : X) → slice_get (listed_in R es k) p ≡ Some x → Q k x
  each_listed Q [] h k p x e = absurd (let g : None ≡ Some x = e in cc)
  each_listed Q (e ∷ es) h k p x is = elim (eq_by_cmp R k e.0) as (λ b. eq_by_cmp R k e.0 ≡ b → slice_get (cond b e.1 (listed_in R es k)) p ≡ Some x → Q k x) [
    | true ↦ λ t g. subst (λ j. Q j x) (sym (equal_keys exact k e.0 t)) (at_place (Q e.0) e.1 p x h.0 g)
    | false ↦ λ t g. each_listed Q es h.1 k p x g
  ] refl is

  pub listed_each : (Q : K → X → Type 0) (es : List (K × List X)) → IsDistinct (eq_by_cmp R) (keys es) → ((k : K) (p : ℕ) (x : X) → slice_get (listed_in R es k) p ≡ Some x → Q k x) → EachIn Q es
  unfolding IsDistinct
  listed_each Q [] d h = tt
  listed_each Q (e ∷ es) d h = (
    from_places (Q e.0) e.1 (λ i x g. h e.0 i x (ap (λ xs. slice_get xs i) (listed_first e es) ∙ g)),
    listed_each Q es d.1 (λ k p x g. h k p x (listed_rest e es k p x d g).1),
  )

  -- an element that passes a test, and where it is found
  pub any_listed : (t : X → Bool) (es : List (K × List X)) → IsDistinct (eq_by_cmp R) (keys es) → list_any t (flat es) ≡ true
      → (k : K) × ((p : ℕ) × ((x : X) × ((slice_get (listed_in R es k) p ≡ Some x) × (t x ≡ true))))
  unfolding IsDistinct
  any_listed t [] d h = absurd (let g : false ≡ true = h in cc)
  any_listed t (e ∷ es) d h = elim (or_cases (list_any t e.1) (list_any t (flat es)) (sym (list_any-append t e.1 (flat es)) ∙ h)) as (λ _. (k : K) × ((p : ℕ) × ((x : X) × ((slice_get (listed_in R (e ∷ es) k) p ≡ Some x) × (t x ≡ true))))) [
    | inl i ↦ let r = any_is t e.1 i in (e.0, (r.0, (r.1.0, (ap (λ xs. slice_get xs r.0) (listed_first e es) ∙ r.1.1.0, r.1.1.1))))
    | inr i ↦ let r = any_listed t es d.1 i in (r.0, (r.1.0, (r.1.1.0, ((listed_rest e es r.0 r.1.0 r.1.1.0 d r.1.1.1.0).1, r.1.1.1.1))))
  ]

  pub listed_any : (t : X → Bool) (es : List (K × List X)) (k : K) (p : ℕ) (x : X) → slice_get (listed_in R es k) p ≡ Some x → t x ≡ true → list_any t (flat es) ≡ true
  listed_any t [] k p x e h = absurd (let g : None ≡ Some x = e in cc)
  listed_any t (e ∷ es) k p x is h = list_any-append t e.1 (flat es) ∙ elim (eq_by_cmp R k e.0) as (λ b. slice_get (cond b e.1 (listed_in R es k)) p ≡ Some x → (list_any t e.1 || list_any t (flat es)) ≡ true) [
    | true ↦ λ g. or_left (list_any t e.1) (list_any t (flat es)) (any_of t e.1 p x g h)
    | false ↦ λ g. or_right (list_any t e.1) (list_any t (flat es)) (listed_any t es k p x g h)
  ] is
