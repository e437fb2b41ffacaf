-- Elements that differ over all lists: no two places, of whatever keys, have the same one.
use Rattle.std.proofs.Common.{◌≡◌, ℕ, zero, suc, true, false, cond, List, [], ◌∷◌, ◌++◌, refl, ap, sym, subst, ◌∙◌, Some, None, map, arith}
use Rattle.std.specs.Prelude.{slice_get}
use Rattle.std.specs.declared.cmp.Ordering.{Ordering}
use Rattle.std.specs.Ordering.{eq_by_cmp}
use Rattle.std.specs.Cmp.{IsTotalOrder}
use Rattle.std.specs.FinMap.{IsAntisymmetric}
use Rattle.std.specs.List.{AllByRecursion, IsDistinct}
use Rattle.std.proofs.lemmas.Bool.{false_from_ne_true}
use Rattle.scene_kinds.proofs.Maps.{equal_keys, ties_itself}
use Rattle.scene_validate.specs.Parts.{keys}
use Rattle.scene_validate.specs.Rules.{flat}
use Rattle.scene_validate.proofs.Tests.{all_append, all_before, all_behind, at_place, from_places}
use Rattle.scene_validate.proofs.Listed.{listed_in, listed_first, listed_rest}

-- what the elements of a list are told by, at a place
pub mapped_at : {X Y : Type 0} (f : X → Y) (xs : List X) (p : ℕ) (x : X) → slice_get xs p ≡ Some x → slice_get (map f xs) p ≡ Some (f x)
mapped_at f [] p x h = absurd (let g : None ≡ Some x = h in cc)
mapped_at f (y ∷ ys) zero x h = ap (λ o. Some o) (ap f (let g : y ≡ x = (let k : Some y ≡ Some x = h in cc) in g))
mapped_at f (y ∷ ys) (suc p) x h = mapped_at f ys p x h

map-append_of : {X Y : Type 0} (f : X → Y) (xs ys : List X) → map f (xs ++ ys) ≡ map f xs ++ map f ys
map-append_of f [] ys = refl
map-append_of f (x ∷ xs) ys = ap (λ zs. f x ∷ zs) (map-append_of f xs ys)

-- an element of two lists in a row stands in one of them
pub split : {X : Type 0} (P : Type 0) (xs ys : List X) (n : ℕ) (y : X) → slice_get (xs ++ ys) n ≡ Some y → ((p : ℕ) → slice_get xs p ≡ Some y → P) → ((q : ℕ) → slice_get ys q ≡ Some y → P) → P
split P [] ys n y h one other = other n h
split P (x ∷ xs) ys zero y h one other = one zero h
split P (x ∷ xs) ys (suc n) y h one other = split P xs ys n y h (λ p g. one (suc p) g) other

pub from_mapped : {X Y : Type 0} (f : X → Y) (xs : List X) (p : ℕ) (y : Y) → slice_get (map f xs) p ≡ Some y → (x : X) × ((slice_get xs p ≡ Some x) × (f x ≡ y))
from_mapped f [] p y h = absurd (let g : None ≡ Some y = h in cc)
from_mapped f (x ∷ xs) zero y h = (x, (refl, (let g : Some (f x) ≡ Some y = h in cc)))
from_mapped f (x ∷ xs) (suc p) y h = from_mapped f xs p y h

module _ {K : Type 0} {S : K → K → Ordering} (o : IsTotalOrder S) (exact : IsAntisymmetric S) where
  -- an element that differs from all isn't among them
  not_among : (x : K) (xs : List K) (p : ℕ) → AllByRecursion (λ y. eq_by_cmp S x y ≡ false) xs → slice_get xs p ≡ Some x → ⊥
  not_among x xs p h e = let g : true ≡ false = sym (ties_itself o x) ∙ at_place (λ y. eq_by_cmp S x y ≡ false) xs p x h e in absurd (cc)

  -- of elements that differ, equal ones stand at one place
  pub one_place : (xs : List K) (p q : ℕ) (x : K) → IsDistinct (eq_by_cmp S) xs → slice_get xs p ≡ Some x → slice_get xs q ≡ Some x → p ≡ q
  unfolding IsDistinct
  one_place [] p q x d h k = absurd (let g : None ≡ Some x = h in cc)
  one_place (y ∷ ys) zero zero x d h k = refl
  one_place (y ∷ ys) zero (suc q) x d h k =
      let g : y ≡ x = (let g : Some y ≡ Some x = h in cc) in
      absurd (not_among y ys q d.0 (k ∙ ap (λ z. Some z) (sym g)))
  one_place (y ∷ ys) (suc p) zero x d h k =
      let g : y ≡ x = (let g : Some y ≡ Some x = k in cc) in
      absurd (not_among y ys p d.0 (h ∙ ap (λ z. Some z) (sym g)))
  one_place (y ∷ ys) (suc p) (suc q) x d h k = ap suc (one_place ys p q x d.1 h k)

  -- where equal ones stand at one place, elements differ
  pub places_differ : (xs : List K) → ((p q : ℕ) (x : K) → slice_get xs p ≡ Some x → slice_get xs q ≡ Some x → p ≡ q) → IsDistinct (eq_by_cmp S) xs
  unfolding IsDistinct
  places_differ [] h = tt
  places_differ (x ∷ xs) h = (
    from_places (λ y. eq_by_cmp S x y ≡ false) xs (λ i y e. false_from_ne_true (eq_by_cmp S x y) (λ t.
        let s : x ≡ y = equal_keys exact x y t in
        let g : 0 ≡ suc i = h 0 (suc i) y (ap (λ z. Some z) s) e in absurd (omega arith))),
    places_differ xs (λ p q y a b. suc_injective (h (suc p) (suc q) y a b)),
  )
    where
      suc_injective : {m n : ℕ} → suc m ≡ suc n → m ≡ n
      suc_injective e = omega arith

  -- both parts of a list whose elements differ
  pub distinct_before : (xs ys : List K) → IsDistinct (eq_by_cmp S) (xs ++ ys) → IsDistinct (eq_by_cmp S) xs
  unfolding IsDistinct
  distinct_before [] ys d = tt
  distinct_before (x ∷ xs) ys d = (all_before (λ y. eq_by_cmp S x y ≡ false) xs ys d.0, distinct_before xs ys d.1)

  pub distinct_behind : (xs ys : List K) → IsDistinct (eq_by_cmp S) (xs ++ ys) → IsDistinct (eq_by_cmp S) ys
  unfolding IsDistinct
  distinct_behind [] ys d = d
  distinct_behind (x ∷ xs) ys d = distinct_behind xs ys d.1

  -- share none
  pub distinct_apart : (xs ys : List K) (p q : ℕ) (x : K) → IsDistinct (eq_by_cmp S) (xs ++ ys) → slice_get xs p ≡ Some x → slice_get ys q ≡ Some x → ⊥
  unfolding IsDistinct
  distinct_apart [] ys p q x d h k = absurd (let g : None ≡ Some x = h in cc)
  distinct_apart (y ∷ xs) ys zero q x d h k =
      let g : y ≡ x = (let g : Some y ≡ Some x = h in cc) in
      not_among y ys q (all_behind (λ z. eq_by_cmp S y z ≡ false) xs ys d.0) (k ∙ ap (λ z. Some z) (sym g))
  distinct_apart (y ∷ xs) ys (suc p) q x d h k = distinct_apart xs ys p q x d.1 h k

  pub distinct_append : (xs ys : List K) → IsDistinct (eq_by_cmp S) xs → IsDistinct (eq_by_cmp S) ys → ((p q : ℕ) (x : K) → slice_get xs p ≡ Some x → slice_get ys q ≡ Some x → ⊥) → IsDistinct (eq_by_cmp S) (xs ++ ys)
  unfolding IsDistinct
  distinct_append [] ys a b apart = b
  distinct_append (x ∷ xs) ys a b apart = (
    all_append (λ y. eq_by_cmp S x y ≡ false) xs ys a.0 (from_places (λ y. eq_by_cmp S x y ≡ false) ys (λ i y e. false_from_ne_true (eq_by_cmp S x y) (λ t.
        apart 0 i y (ap (λ z. Some z) (equal_keys exact x y t)) e))),
    distinct_append xs ys a.1 b (λ p q y h k. apart (suc p) q y h k),
  )

-- two places of lists under their keys
pub record ArePlaces {K X : Type 0} (R : K → K → Ordering) (es : List (K × List X)) (k : K) (p : ℕ) (j : K) (q : ℕ) (x y : X) : Type 0 where
  pub one : slice_get (listed_in R es k) p ≡ Some x
  pub other : slice_get (listed_in R es j) q ≡ Some y

module _ {K X Y : Type 0} {R : K → K → Ordering} {S : Y → Y → Ordering} (o : IsTotalOrder R) (exact : IsAntisymmetric R) (u : IsTotalOrder S) (same : IsAntisymmetric S) (f : X → Y) where
  -- what is found under a key stands in the row of all lists
  found_flat : (es : List (K × List X)) (k : K) (p : ℕ) (x : X) → slice_get (listed_in R es k) p ≡ Some x → (n : ℕ) × (slice_get (map f (flat es)) n ≡ Some (f x))
  found_flat [] k p x h = absurd (let g : None ≡ Some x = h in cc)
  found_flat (e ∷ es) k p x is = elim (eq_by_cmp R k e.0) as (λ b. slice_get (cond b e.1 (listed_in R es k)) p ≡ Some x → (n : ℕ) × (slice_get (map f (e.1 ++ flat es)) n ≡ Some (f x))) [
    | true ↦ λ h. before e.1 p h
    | false ↦ λ h. let r = found_flat es k p x h in behind e.1 r.0 r.1
  ] is
    where
      before : (xs : List X) (p : ℕ) → slice_get xs p ≡ Some x → (n : ℕ) × (slice_get (map f (xs ++ flat es)) n ≡ Some (f x))
      before [] p h = absurd (let g : None ≡ Some x = h in cc)
      before (y ∷ ys) zero h = (zero, mapped_at f (y ∷ []) zero x h)
      before (y ∷ ys) (suc p) h = let r = before ys p h in (suc r.0, r.1)

      behind : (xs : List X) (n : ℕ) → slice_get (map f (flat es)) n ≡ Some (f x) → (m : ℕ) × (slice_get (map f (xs ++ flat es)) m ≡ Some (f x))
      behind [] n h = (n, h)
      behind (y ∷ ys) n h = let r = behind ys n h in (suc r.0, r.1)

  -- where all elements differ, equal ones stand at one place under one key
  pub once_listed : (es : List (K × List X)) → IsDistinct (eq_by_cmp S) (map f (flat es)) → (k j : K) (p q : ℕ) (x y : X) → ArePlaces R es k p j q x y → f x ≡ f y → (k ≡ j) × (p ≡ q)
  once_listed [] d k j p q x y at e = absurd (let g : None ≡ Some x = at.one in cc)
  once_listed (e ∷ es) d k j p q x y at s =
      elim (eq_by_cmp R k e.0) as (λ b. eq_by_cmp R k e.0 ≡ b → slice_get (cond b e.1 (listed_in R es k)) p ≡ Some x → (k ≡ j) × (p ≡ q)) [
        | true ↦ λ t h. elim (eq_by_cmp R j e.0) as (λ b. eq_by_cmp R j e.0 ≡ b → slice_get (cond b e.1 (listed_in R es j)) q ≡ Some y → (k ≡ j) × (p ≡ q)) [
          | true ↦ λ v g. (
            equal_keys exact k e.0 t ∙ sym (equal_keys exact j e.0 v),
            one_place u same (map f e.1) p q (f x) (distinct_before u same (map f e.1) (map f (flat es)) parts) (mapped_at f e.1 p x h) (mapped_at f e.1 q y g ∙ ap (λ z. Some z) (sym s)),
          )
          | false ↦ λ v g.
              let r = found_flat es j q y g in
              absurd (distinct_apart u same (map f e.1) (map f (flat es)) p r.0 (f x) parts (mapped_at f e.1 p x h) (r.1 ∙ ap (λ z. Some z) (sym s)))
        ] refl at.other
        | false ↦ λ t h. elim (eq_by_cmp R j e.0) as (λ b. eq_by_cmp R j e.0 ≡ b → slice_get (cond b e.1 (listed_in R es j)) q ≡ Some y → (k ≡ j) × (p ≡ q)) [
          | true ↦ λ v g.
              let r = found_flat es k p x h in
              absurd (distinct_apart u same (map f e.1) (map f (flat es)) q r.0 (f x) parts (mapped_at f e.1 q y g ∙ ap (λ z. Some z) (sym s)) r.1)
          | false ↦ λ v g. once_listed es (distinct_behind u same (map f e.1) (map f (flat es)) parts) k j p q x y (record { one = h; other = g }) s
        ] refl at.other
      ] refl at.one
    where
      parts : IsDistinct (eq_by_cmp S) (map f e.1 ++ map f (flat es))
      parts = subst (IsDistinct (eq_by_cmp S)) (map-append_of f e.1 (flat es)) d

  -- what stands in the row of all lists is found under a key
  flat_found : (es : List (K × List X)) (n : ℕ) (y : Y) → IsDistinct (eq_by_cmp R) (keys es) → slice_get (map f (flat es)) n ≡ Some y
      → (k : K) × ((p : ℕ) × ((x : X) × ((slice_get (listed_in R es k) p ≡ Some x) × (f x ≡ y))))
  unfolding IsDistinct
  flat_found [] n y d h = absurd (let g : None ≡ Some y = h in cc)
  flat_found (e ∷ es) n y d h = split ((k : K) × ((p : ℕ) × ((x : X) × ((slice_get (listed_in R (e ∷ es) k) p ≡ Some x) × (f x ≡ y))))) (map f e.1) (map f (flat es)) n y (ap (λ xs. slice_get xs n) (sym (map-append_of f e.1 (flat es))) ∙ h)
      (λ p g. let r = from_mapped f e.1 p y g in (e.0, (p, (r.0, (ap (λ xs. slice_get xs p) (listed_first o exact e es) ∙ r.1.0, r.1.1)))))
      (λ q g. let r = flat_found es q y d.1 g in (r.0, (r.1.0, (r.1.1.0, ((listed_rest o exact e es r.0 r.1.0 r.1.1.0 d r.1.1.1.0).1, r.1.1.1.1)))))

  -- where equal ones stand at one place, all elements differ
  pub listed_once : (es : List (K × List X)) → IsDistinct (eq_by_cmp R) (keys es)
      → ((k j : K) (p q : ℕ) (x y : X) → ArePlaces R es k p j q x y → f x ≡ f y → (k ≡ j) × (p ≡ q)) → IsDistinct (eq_by_cmp S) (map f (flat es))
  unfolding IsDistinct
  listed_once [] d h = tt
  listed_once (e ∷ es) d h = subst (IsDistinct (eq_by_cmp S)) (sym (map-append_of f e.1 (flat es))) (distinct_append u same (map f e.1) (map f (flat es))
      (places_differ u same (map f e.1) (λ p q z a b.
      let r = from_mapped f e.1 p z a in
      let s = from_mapped f e.1 q z b in
      (h e.0 e.0 p q r.0 s.0 (record { one = first p r.0 r.1.0; other = first q s.0 s.1.0 }) (r.1.1 ∙ sym s.1.1)).1))
      (listed_once es d.1 (λ k j p q x y at s. h k j p q x y (record { one = (listed_rest o exact e es k p x d at.one).1; other = (listed_rest o exact e es j q y d at.other).1 }) s))
      (λ p q z a b.
      let r = from_mapped f e.1 p z a in
      let s = flat_found es q z d.1 b in
      let g = listed_rest o exact e es s.0 s.1.0 s.1.1.0 d s.1.1.1.0 in
      let m = (h e.0 s.0 p s.1.0 r.0 s.1.1.0 (record { one = first p r.0 r.1.0; other = g.1 }) (r.1.1 ∙ sym s.1.1.1.1)).0 in
      let t : true ≡ false = sym (ties_itself o e.0) ∙ ap (λ j. eq_by_cmp R j e.0) m ∙ g.0 in absurd (cc)))
    where
      first : (i : ℕ) (x : X) → slice_get e.1 i ≡ Some x → slice_get (listed_in R (e ∷ es) e.0) i ≡ Some x
      first i x g = ap (λ xs. slice_get xs i) (listed_first o exact e es) ∙ g
