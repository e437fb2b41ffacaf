-- What is a member of lists that are mapped, filtered and joined.
use Rattle.std.proofs.Common.{◌≡◌, ◌<◌, ℕ, zero, suc, Bool, true, false, cond, inl, inr, List, [], ◌∷◌, length, get_or, map, refl, ap, subst, sym, ◌∙◌, arith, Some, None}
use Rattle.std.specs.Prelude.{slice_get}
use Rattle.std.specs.List.{Contains, filter, flat_map, list_all}
use Rattle.std.specs.Ordering.{nat_cmp, eq_by_cmp}
use Rattle.std.specs.FinMap.{nat_cmp-IsAntisymmetric}
use Rattle.std.specs.FinMap.Entries.{find}
use Rattle.std.proofs.lemmas.Bool.{and_parts}
use Rattle.std.proofs.lemmas.List.Elements.{Contains-append_left, Contains-append_right, Contains-append_cases, All-contains, filter_passes}
use Rattle.std.proofs.lemmas.Option.{slice_get-get_or}
use Rattle.scene_kinds.proofs.Maps.{equal_keys}

module _ {X : Type 0} where
  -- nothing is in an empty list
  pub none_in : {P : Type 0} (x : X) → Contains [] x → P
  none_in x h = let wrong : h.0 < 0 = h.1 in absurd (omega arith)

  -- the first is in, and so is what is in the rest
  pub first_in : (x : X) (xs : List X) → Contains (x ∷ xs) x
  first_in x xs = (0, omega arith, refl)

  pub rest_in : (x : X) (xs : List X) (y : X) → Contains xs y → Contains (x ∷ xs) y
  rest_in x xs y h = (suc h.0, omega arith, h.2)

  -- what is in is the first, or in the rest
  pub in_cases : {P : Type 0} (x : X) (xs : List X) (y : X) → Contains (x ∷ xs) y → (x ≡ y → P) → (Contains xs y → P) → P
  in_cases {P} x xs y h first rest = elim h.0 as (λ k. k < length (x ∷ xs) → get_or (x ∷ xs) k y ≡ y → P) [
    | zero ↦ λ l e. first e
    | suc k ↦ λ l e. rest (k, omega arith, e)
  ] h.1 h.2

  -- what is in stands at a place, and what stands at a place is in
  pub place_of : (xs : List X) (x : X) → Contains xs x → (p : ℕ) × (slice_get xs p ≡ Some x)
  place_of xs x h = (h.0, slice_get-get_or xs h.0 x h.1 ∙ ap Some h.2)

  pub in_from_place : (xs : List X) (p : ℕ) (x : X) → slice_get xs p ≡ Some x → Contains xs x
  in_from_place [] p x h = absurd (let wrong : None ≡ Some x = h in cc)
  in_from_place (y ∷ ys) zero x h = (0, omega arith, let same : Some y ≡ Some x = h in cc)
  in_from_place (y ∷ ys) (suc p) x h = rest_in y ys x (in_from_place ys p x h)

  -- a test that all pass is passed by each
  pub each_passes : (p : X → Bool) (xs : List X) (x : X) → list_all p xs ≡ true → Contains xs x → p x ≡ true
  each_passes p [] x all h = none_in x h
  each_passes p (y ∷ ys) x all h =
      in_cases y ys x h (λ e. ap p (sym e) ∙ (and_parts _ _ all).0) (λ r. each_passes p ys x (and_parts _ _ all).1 r)

  -- what a filter keeps
  pub in_filter : (p : X → Bool) (xs : List X) (x : X) → Contains xs x → p x ≡ true → Contains (filter p xs) x
  in_filter p [] x h t = none_in x h
  in_filter p (y ∷ ys) x h t =
      in_cases y ys x h
      (λ e. subst (λ b. Contains (cond b (y ∷ filter p ys) (filter p ys)) x) (sym (ap p e ∙ t)) (subst (λ z. Contains (y ∷ filter p ys) z) e (first_in y (filter p ys))))
      (λ r. let kept = in_filter p ys x r t in elim (p y) as (λ b. Contains (cond b (y ∷ filter p ys) (filter p ys)) x) [ true ↦ rest_in y (filter p ys) x kept | false ↦ kept ])

  pub from_filter : (p : X → Bool) (xs : List X) (x : X) → Contains (filter p xs) x → Contains xs x
  from_filter p [] x h = h
  from_filter p (y ∷ ys) x h = elim (p y) as (λ b. Contains (cond b (y ∷ filter p ys) (filter p ys)) x → Contains (y ∷ ys) x) [
    | true ↦ λ k. in_cases y (filter p ys) x k (λ e. subst (λ z. Contains (y ∷ ys) z) e (first_in y ys)) (λ r. rest_in y ys x (from_filter p ys x r))
    | false ↦ λ k. rest_in y ys x (from_filter p ys x k)
  ] h

  pub passes : (p : X → Bool) (xs : List X) (x : X) → Contains (filter p xs) x → p x ≡ true
  passes p xs x h = All-contains (λ z. p z ≡ true) (filter p xs) x (filter_passes p xs) h

module _ {X Y : Type 0} where
  -- the images of a list
  pub in_map : (f : X → Y) (xs : List X) (x : X) (y : Y) → Contains xs x → f x ≡ y → Contains (map f xs) y
  in_map f [] x y h e = none_in x h
  in_map f (z ∷ zs) x y h e =
      in_cases z zs x h (λ s. subst (λ v. Contains (f z ∷ map f zs) v) (ap f s ∙ e) (first_in (f z) (map f zs))) (λ r. rest_in (f z) (map f zs) y (in_map f zs x y r e))

  pub from_map : (f : X → Y) (xs : List X) (y : Y) → Contains (map f xs) y → (x : X) × (Contains xs x × (f x ≡ y))
  from_map f [] y h = none_in y h
  from_map f (z ∷ zs) y h =
      in_cases (f z) (map f zs) y h (λ e. (z, (first_in z zs, e))) (λ r. let s = from_map f zs y r in (s.0, (rest_in z zs s.0 s.1.0, s.1.1)))

  -- the lists of a list, joined
  pub in_flat_map : (f : X → List Y) (xs : List X) (x : X) (y : Y) → Contains xs x → Contains (f x) y → Contains (flat_map f xs) y
  in_flat_map f [] x y h g = none_in x h
  in_flat_map f (z ∷ zs) x y h g =
      in_cases z zs x h (λ e. Contains-append_left (f z) (flat_map f zs) y (subst (λ v. Contains (f v) y) (sym e) g)) (λ r. Contains-append_right (f z) (flat_map f zs) y (in_flat_map f zs x y r g))

  pub from_flat_map : (f : X → List Y) (xs : List X) (y : Y) → Contains (flat_map f xs) y → (x : X) × (Contains xs x × Contains (f x) y)
  from_flat_map f [] y h = none_in y h
  from_flat_map f (z ∷ zs) y h = elim (Contains-append_cases (f z) (flat_map f zs) y h) [
    | inl a ↦ (z, (first_in z zs, a))
    | inr b ↦ let s = from_flat_map f zs y b in (s.0, (rest_in z zs s.0 s.1.0, s.1.1))
  ]

-- the entry of a key that is found
pub entry_in : {X : Type 0} (es : List (ℕ × X)) (k : ℕ) (x : X) → find nat_cmp k es ≡ Some x → Contains es (k, x)
entry_in [] k x h = absurd (let wrong : None ≡ Some x = h in cc)
entry_in {X} (e ∷ es) k x h = elim (eq_by_cmp nat_cmp k e.0) as (λ b. eq_by_cmp nat_cmp k e.0 ≡ b → cond b (Some e.1) (find nat_cmp k es) ≡ Some x → Contains (e ∷ es) (k, x)) [
  | true ↦ λ t g.
      let key = equal_keys nat_cmp-IsAntisymmetric k e.0 t in
      let value : e.1 ≡ x = cc in
      let entry : ◌≡◌ {A = ℕ × X} e (k, x) = λ i. (sym key i, value i) in subst (λ z. Contains (e ∷ es) z) entry (first_in e es)
  | false ↦ λ t g. rest_in e es (k, x) (entry_in es k x g)
] refl h
