-- Which element stands where in a list after a push or a write, told by cases.
use Rattle.std.proofs.Common.{◌≡◌, ℕ, zero, suc, List, [], ◌∷◌, ◌++◌, length, refl, ap, arith, Some, None}
use Rattle.std.specs.Prelude.{slice_get, slice_set}

-- after a push: an old value, or the new one at the end
pub pushed : {X : Type 0} (P : Type 0) (xs : List X) (x : X) (p : ℕ) (r : X) → slice_get (xs ++ x ∷ []) p ≡ Some r
    → (slice_get xs p ≡ Some r → P) → (p ≡ length xs → x ≡ r → P) → P
pushed P [] x zero r h old new = new refl (let k : Some x ≡ Some r = h in cc)
pushed P [] x (suc p) r h old new = absurd (let k : None ≡ Some r = h in cc)
pushed P (y ∷ ys) x zero r h old new = old h
pushed P (y ∷ ys) x (suc p) r h old new = pushed P ys x p r h old (λ e f. new (ap (λ n. suc n) e) f)

-- an old value stays where it is
pub pushed_stays : {X : Type 0} (xs : List X) (x : X) (p : ℕ) (r : X) → slice_get xs p ≡ Some r → slice_get (xs ++ x ∷ []) p ≡ Some r
pushed_stays [] x p r h = absurd (let k : None ≡ Some r = h in cc)
pushed_stays (y ∷ ys) x zero r h = h
pushed_stays (y ∷ ys) x (suc p) r h = pushed_stays ys x p r h

-- the new one stands at the end
pub pushed_last : {X : Type 0} (xs : List X) (x : X) → slice_get (xs ++ x ∷ []) (length xs) ≡ Some x
pushed_last [] x = refl
pushed_last (y ∷ ys) x = pushed_last ys x

-- after a write: the new value at its place, or an old one at another
pub written : {X : Type 0} (P : Type 0) (xs : List X) (i : ℕ) (x : X) (p : ℕ) (r : X) → slice_get (slice_set xs i x) p ≡ Some r
    → (p ≡ i → x ≡ r → P) → ((p ≡ i → ⊥) → slice_get xs p ≡ Some r → P) → P
written P [] i x p r h new old = absurd (let k : None ≡ Some r = h in cc)
written P (y ∷ ys) zero x zero r h new old = new refl (let k : Some x ≡ Some r = h in cc)
written P (y ∷ ys) zero x (suc p) r h new old = old (λ e. omega arith) h
written P (y ∷ ys) (suc i) x zero r h new old = old (λ e. omega arith) h
written P (y ∷ ys) (suc i) x (suc p) r h new old = written P ys i x p r h (λ e f. new (ap (λ n. suc n) e) f) (λ ne g. old (λ e. ne (omega arith)) g)

-- the value at another place stays, and the written one stands at its own
pub written_stays : {X : Type 0} (xs : List X) (i : ℕ) (x : X) (p : ℕ) (r : X) → (p ≡ i → ⊥) → slice_get xs p ≡ Some r → slice_get (slice_set xs i x) p ≡ Some r
written_stays [] i x p r ne h = h
written_stays (y ∷ ys) zero x zero r ne h = absurd (ne refl)
written_stays (y ∷ ys) zero x (suc p) r ne h = h
written_stays (y ∷ ys) (suc i) x zero r ne h = h
written_stays (y ∷ ys) (suc i) x (suc p) r ne h = written_stays ys i x p r (λ e. ne (ap (λ n. suc n) e)) h

pub written_there : {X : Type 0} (xs : List X) (i : ℕ) (x r : X) → slice_get xs i ≡ Some r → slice_get (slice_set xs i x) i ≡ Some x
written_there [] i x r h = absurd (let k : None ≡ Some r = h in cc)
written_there (y ∷ ys) zero x r h = refl
written_there (y ∷ ys) (suc i) x r h = written_there ys i x r h
