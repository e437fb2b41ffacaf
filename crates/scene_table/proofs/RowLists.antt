-- A list of rows after a swap out: which row stands where, told by cases.
use Rattle.std.proofs.Common.{◌≡◌, ℕ, zero, suc, ◌<◌, true, false, List, [], ◌∷◌, length, refl, ap, sym, ◌∙◌, arith, Some, None, nat_lt}
use Rattle.std.proofs.lemmas.Bool.{ltb-true, ltb-false}
use Rattle.std.proofs.lemmas.Option.{slice_get_within}
use Rattle.std.specs.Prelude.{slice_get}
use Rattle.scene_table.specs.Rows.{swap_out, last_of, front_of}

-- there is an element at each place
pub element_at : {X : Type 0} (xs : List X) (i : ℕ) → i < length xs → (x : X) × (slice_get xs i ≡ Some x)
element_at [] i l = absurd (omega arith)
element_at (x ∷ xs) zero l = (x, refl)
element_at (x ∷ xs) (suc i) l = element_at xs i (omega arith)

-- the last, and the others, of a list that has one
get_last : {X : Type 0} (x : X) (xs : List X) → slice_get (x ∷ xs) (length xs) ≡ Some (last_of x xs)
get_last x [] = refl
get_last x (y ∷ ys) = get_last y ys

get_front : {X : Type 0} (x : X) (xs : List X) (p : ℕ) (r : X) → slice_get (front_of x xs) p ≡ Some r → (slice_get (x ∷ xs) p ≡ Some r) × (p < length xs)
get_front x [] p r h = absurd (let k : None ≡ Some r = h in cc)
get_front x (y ∷ ys) zero r h = (h, omega arith)
get_front x (y ∷ ys) (suc p) r h = let k = get_front y ys p r h in (k.0, let l : p < length ys = k.1 in omega arith)

front_stays : {X : Type 0} (x : X) (xs : List X) (p : ℕ) (r : X) → p < length xs → slice_get (x ∷ xs) p ≡ Some r → slice_get (front_of x xs) p ≡ Some r
front_stays x [] p r l h = absurd (omega arith)
front_stays x (y ∷ ys) zero r l h = h
front_stays x (y ∷ ys) (suc p) r l h = front_stays y ys p r (omega arith) h

-- after a swap out: the last value at the place that was left, or an old one at another; the last place is gone
pub swapped : {X : Type 0} (P : Type 0) (xs : List X) (i : ℕ) (p : ℕ) (r : X) → i < length xs → slice_get (swap_out xs i) p ≡ Some r
    → (p ≡ i → (q : ℕ) → suc q ≡ length xs → p < q → slice_get xs q ≡ Some r → P) → ((p ≡ i → ⊥) → suc p < length xs → slice_get xs p ≡ Some r → P) → P
swapped P [] i p r l h last old = absurd (omega arith)
swapped P (x ∷ []) zero p r l h last old = absurd (let k : None ≡ Some r = h in cc)
swapped P (x ∷ y ∷ ys) zero zero r l h last old =
    last refl (suc (length ys)) refl (omega arith) (get_last y ys ∙ h)
swapped P (x ∷ y ∷ ys) zero (suc p) r l h last old =
    let k = get_front y ys p r h in
    old (λ e. omega arith) (let m : p < length ys = k.1 in omega arith) k.0
swapped P (x ∷ xs) (suc i) zero r l h last old =
    old (λ e. omega arith) (omega arith) h
swapped P (x ∷ xs) (suc i) (suc p) r l h last old =
    swapped P xs i p r (omega arith) h
    (λ e q f m g. last (ap (λ n. suc n) e) (suc q) (ap (λ n. suc n) f) (omega arith) g)
    (λ ne m g. old (λ e. ne (omega arith)) (omega arith) g)

-- a value of a list is its last or one of the others
last_or_front : {X : Type 0} (y : X) (ys : List X) (p : ℕ) (r : X) → slice_get (y ∷ ys) p ≡ Some r → (q : ℕ) × (slice_get (last_of y ys ∷ front_of y ys) q ≡ Some r)
last_or_front y [] zero r h = (0, h)
last_or_front y [] (suc p) r h = absurd (let k : None ≡ Some r = h in cc)
last_or_front y (z ∷ zs) zero r h = (1, h)
last_or_front {X} y (z ∷ zs) (suc p) r h =
    let k = last_or_front z zs p r h in
    elim k.0 as (λ q. slice_get (last_of z zs ∷ front_of z zs) q ≡ Some r → (m : ℕ) × (slice_get (last_of z zs ∷ y ∷ front_of z zs) m ≡ Some r)) [
      | zero ↦ λ g. (0, g)
      | suc q ↦ λ g. (suc (suc q), g)
    ] k.1

-- a value other than the one that leaves stands somewhere after the swap
pub swapped_stays : {X : Type 0} (xs : List X) (i p : ℕ) (r : X) → i < length xs → (p ≡ i → ⊥) → slice_get xs p ≡ Some r → (q : ℕ) × (slice_get (swap_out xs i) q ≡ Some r)
swapped_stays [] i p r l ne h = absurd (omega arith)
swapped_stays (x ∷ xs) zero zero r l ne h = absurd (ne refl)
swapped_stays (x ∷ []) zero (suc p) r l ne h = absurd (let k : None ≡ Some r = h in cc)
swapped_stays (x ∷ y ∷ ys) zero (suc p) r l ne h = last_or_front y ys p r h
swapped_stays (x ∷ xs) (suc i) zero r l ne h = (0, h)
swapped_stays (x ∷ xs) (suc i) (suc p) r l ne h =
    let k = swapped_stays xs i p r (omega arith) (λ e. ne (ap (λ n. suc n) e)) h in (suc k.0, k.1)

-- it stands on at its place, or it was the last and stands where the one left
pub swapped_where : {X : Type 0} (P : Type 0) (xs : List X) (i p : ℕ) (r : X) → i < length xs → (p ≡ i → ⊥) → slice_get xs p ≡ Some r
    → (slice_get (swap_out xs i) p ≡ Some r → P) → (slice_get (swap_out xs i) i ≡ Some r → P) → P
swapped_where P [] i p r l ne h stays came = absurd (omega arith)
swapped_where P (x ∷ xs) zero zero r l ne h stays came = absurd (ne refl)
swapped_where P (x ∷ []) zero (suc p) r l ne h stays came = absurd (let k : None ≡ Some r = h in cc)
swapped_where P (x ∷ y ∷ ys) zero (suc p) r l ne h stays came =
    elim (nat_lt p (length ys)) as (λ b. nat_lt p (length ys) ≡ b → P) [
      | true ↦ λ e. stays (front_stays y ys p r (ltb-true p (length ys) e) h)
      | false ↦ λ e.
          let within = slice_get_within (y ∷ ys) p r h in
          let low = ltb-false p (length ys) e in
          let q : p ≡ length ys = omega (arith, within, low) in
          came (sym (get_last y ys) ∙ ap (slice_get (y ∷ ys)) (sym q) ∙ h)
    ] refl
swapped_where P (x ∷ xs) (suc i) zero r l ne h stays came = stays h
swapped_where P (x ∷ xs) (suc i) (suc p) r l ne h stays came = swapped_where P xs i p r (omega arith) (λ e. ne (ap suc e)) h stays came
