-- Lists whose elements stand in a relation, place by place.
use Rattle.std.proofs.Common.{◌≡◌, ℕ, zero, suc, List, [], ◌∷◌, ◌++◌, map, refl, subst, Some, None}
use Rattle.std.specs.Prelude.{slice_get, slice_set}
use Rattle.std.specs.List.{AllZip, flat_map}

module _ {A : Type 0} where
  -- a list stands so to itself, where each element does
  pub zip_itself : (P : A → A → Type 0) (xs : List A) → ((x : A) → P x x) → AllZip P xs xs
  zip_itself P [] f = tt
  zip_itself P (x ∷ xs) f = (f x, zip_itself P xs f)

module _ {A B : Type 0} where
  -- lists that are joined
  pub zip_joined : (P : A → B → Type 0) (xs us : List A) (ys vs : List B) → AllZip P xs ys → AllZip P us vs → AllZip P (xs ++ us) (ys ++ vs)
  zip_joined P [] us [] vs h g = g
  zip_joined P [] us (y ∷ ys) vs h g = absurd h
  zip_joined P (x ∷ xs) us [] vs h g = absurd h
  zip_joined P (x ∷ xs) us (y ∷ ys) vs h g = (h.0, zip_joined P xs us ys vs h.1 g)

  -- an element that is written in place of one
  pub zip_set : (P : A → B → Type 0) (xs : List A) (ys : List B) (i : ℕ) (old new : A) → slice_get xs i ≡ Some old → ((y : B) → P old y → P new y)
      → AllZip P xs ys → AllZip P (slice_set xs i new) ys
  zip_set P [] ys i old new at f h = h
  zip_set P (x ∷ xs) [] i old new at f h = absurd h
  zip_set P (x ∷ xs) (y ∷ ys) zero old new at f h = let same : x ≡ old = cc in (f y (subst (λ z. P z y) same h.0), h.1)
  zip_set P (x ∷ xs) (y ∷ ys) (suc i) old new at f h = (h.0, zip_set P xs ys i old new at f h.1)

  -- the element that stands at a place
  pub zip_at : (P : A → B → Type 0) (xs : List A) (ys : List B) (i : ℕ) (x : A) → slice_get xs i ≡ Some x → AllZip P xs ys
      → (y : B) × ((slice_get ys i ≡ Some y) × P x y)
  zip_at P [] ys i x at h = absurd (let wrong : None ≡ Some x = at in cc)
  zip_at P (a ∷ xs) [] i x at h = absurd h
  zip_at P (a ∷ xs) (b ∷ ys) zero x at h = let same : a ≡ x = cc in (b, (refl, subst (λ z. P z b) same h.0))
  zip_at P (a ∷ xs) (b ∷ ys) (suc i) x at h = zip_at P xs ys i x at h.1

  -- another relation, from each two elements and their place
  pub zip_places : (P Q : A → B → Type 0) (xs : List A) (ys : List B)
      → ((i : ℕ) (x : A) (y : B) → slice_get xs i ≡ Some x → slice_get ys i ≡ Some y → P x y → Q x y) → AllZip P xs ys → AllZip Q xs ys
  zip_places P Q [] [] f h = tt
  zip_places P Q [] (y ∷ ys) f h = absurd h
  zip_places P Q (x ∷ xs) [] f h = absurd h
  zip_places P Q (x ∷ xs) (y ∷ ys) f h = (f 0 x y refl refl h.0, zip_places P Q xs ys (λ i. f (suc i)) h.1)

  -- and from each two elements
  pub zip_weaker : (P Q : A → B → Type 0) (xs : List A) (ys : List B) → ((x : A) (y : B) → P x y → Q x y) → AllZip P xs ys → AllZip Q xs ys
  zip_weaker P Q xs ys f h = zip_places P Q xs ys (λ i x y at there. f x y) h

  -- turned round
  pub zip_turned : (P : A → B → Type 0) (Q : B → A → Type 0) (xs : List A) (ys : List B) → ((x : A) (y : B) → P x y → Q y x) → AllZip P xs ys → AllZip Q ys xs
  zip_turned P Q [] [] f h = tt
  zip_turned P Q [] (y ∷ ys) f h = absurd h
  zip_turned P Q (x ∷ xs) [] f h = absurd h
  zip_turned P Q (x ∷ xs) (y ∷ ys) f h = (f x y h.0, zip_turned P Q xs ys f h.1)

module _ {A B C : Type 0} where
  -- over a list in between
  pub zip_over : (P : A → B → Type 0) (Q : B → C → Type 0) (R : A → C → Type 0) (xs : List A) (ys : List B) (zs : List C)
      → ((x : A) (y : B) (z : C) → P x y → Q y z → R x z) → AllZip P xs ys → AllZip Q ys zs → AllZip R xs zs
  zip_over P Q R [] [] [] f h g = tt
  zip_over P Q R [] [] (z ∷ zs) f h g = absurd g
  zip_over P Q R [] (y ∷ ys) zs f h g = absurd h
  zip_over P Q R (x ∷ xs) [] zs f h g = absurd h
  zip_over P Q R (x ∷ xs) (y ∷ ys) [] f h g = absurd g
  zip_over P Q R (x ∷ xs) (y ∷ ys) (z ∷ zs) f h g = (f x y z h.0 g.0, zip_over P Q R xs ys zs f h.1 g.1)

  -- images that are the same
  pub zip_same : (P : A → B → Type 0) (f : A → C) (g : B → C) (xs : List A) (ys : List B) → ((x : A) (y : B) → P x y → f x ≡ g y)
      → AllZip P xs ys → map f xs ≡ map g ys
  zip_same P f g [] [] e h = refl
  zip_same P f g [] (y ∷ ys) e h = absurd h
  zip_same P f g (x ∷ xs) [] e h = absurd h
  zip_same P f g (x ∷ xs) (y ∷ ys) e h = λ i. e x y h.0 i ∷ zip_same P f g xs ys e h.1 i

  -- the images of the one list
  pub zip_mapped : (P : A → C → Type 0) (f : B → C) (xs : List A) (ys : List B) → AllZip (λ x y. P x (f y)) xs ys → AllZip P xs (map f ys)
  zip_mapped P f [] [] h = tt
  zip_mapped P f [] (y ∷ ys) h = absurd h
  zip_mapped P f (x ∷ xs) [] h = absurd h
  zip_mapped P f (x ∷ xs) (y ∷ ys) h = (h.0, zip_mapped P f xs ys h.1)

module _ {A B K : Type 0} where
  -- the lists of each of some keys, joined
  pub zip_keys : (P : A → B → Type 0) (f : K → List A) (g : K → List B) (ks : List K) → ((k : K) → AllZip P (f k) (g k)) → AllZip P (flat_map f ks) (flat_map g ks)
  zip_keys P f g [] h = tt
  zip_keys P f g (k ∷ ks) h = zip_joined P (f k) (flat_map f ks) (g k) (flat_map g ks) (h k) (zip_keys P f g ks h)

module _ {A B C D : Type 0} where
  -- the images of both
  pub zip_images : (P : A → B → Type 0) (Q : C → D → Type 0) (f : A → C) (g : B → D) (xs : List A) (ys : List B)
      → ((x : A) (y : B) → P x y → Q (f x) (g y)) → AllZip P xs ys → AllZip Q (map f xs) (map g ys)
  zip_images P Q f g [] [] e h = tt
  zip_images P Q f g [] (y ∷ ys) e h = absurd h
  zip_images P Q f g (x ∷ xs) [] e h = absurd h
  zip_images P Q f g (x ∷ xs) (y ∷ ys) e h = (e x y h.0, zip_images P Q f g xs ys e h.1)
