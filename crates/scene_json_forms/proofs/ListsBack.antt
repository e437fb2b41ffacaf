-- Lists that were written are read again: each element, and each that follows the one before.
use Rattle.std.proofs.Common.{◌≡◌, ℕ, ◌+◌, ◌<◌, Bool, true, List, [], ◌∷◌, refl, ap, ◌∙◌, Option, Some, None, Result, Ok}
use Rattle.std.specs.Prelude.{map as each, nat_lt}
use Rattle.std.specs.List.{AllByRecursion}
use Rattle.std.proofs.lemmas.Bool.{lt-ltb}
use Rattle.serde_json.specs.Data.{Data}
use Rattle.scene_json_forms.specs.declared.fault.FileFault.{FileFault}
use Rattle.scene_json_forms.specs.Reading.{◌>>=◌, if_good, below, elements, each_at, list_of, may_follow, rising_at, rising_of, place_in}
use Rattle.scene_json_forms.specs.Text.{items_of, list_text, count_text}

-- the elements of a list that was written
pub elements_written : (ds : List Data) → elements (items_of ds) ≡ ds
elements_written [] = refl
elements_written (d ∷ ds) = ap (λ es. d ∷ es) (elements_written ds)

-- a test that passes
pub good : {A : Type 0} (path : List ℕ) (t : Bool) (a : A) → t ≡ true → if_good path t a ≡ Ok a
good path t a h = ap (λ b. if_good path b a) h

-- what is read again, at every path
abbrev pub ReadsBack : {A : Type 0} → (List ℕ → Data → Result A FileFault) → (A → Data) → A → Type 0
ReadsBack read text a = (path : List ℕ) → read path (text a) ≡ Ok a

-- a number below a bound
pub below_back : (bound n : ℕ) → n < bound → ReadsBack (below bound) count_text n
below_back bound n l path = good path (nat_lt n bound) n (lt-ltb n bound l)

-- what comes after a step that was read again
pub after : {A B : Type 0} (r : Result A FileFault) (a : A) (next : A → Result B FileFault) (b : Result B FileFault) → r ≡ Ok a → next a ≡ b
    → (r >>= next) ≡ b
after r a next b h k = ap (λ x. x >>= next) h ∙ k

-- each element follows the one before
abbrev pub Follow : {A : Type 0} → (A → A → Bool) → Option A → List A → Type 0
Follow follows before [] = Unit {0}
Follow follows before (x ∷ xs) = (may_follow follows before x ≡ true) × Follow follows (Some x) xs

module _ {A : Type 0} (read : List ℕ → Data → Result A FileFault) (text : A → Data) where
  pub each_back : (path : List ℕ) (i : ℕ) (xs : List A) → AllByRecursion (ReadsBack read text) xs → each_at read path i (each text xs) ≡ Ok xs
  each_back path i [] h = refl
  each_back path i (x ∷ xs) h =
      after (read (place_in path i) (text x)) x (λ a. each_at read path (i + 1) (each text xs) >>= λ rest. Ok (a ∷ rest)) (Ok (x ∷ xs))
      (h.0 (place_in path i))
      (after (each_at read path (i + 1) (each text xs)) xs (λ rest. Ok (x ∷ rest)) (Ok (x ∷ xs)) (each_back path (i + 1) xs h.1) refl)

  pub list_back : (xs : List A) → AllByRecursion (ReadsBack read text) xs → ReadsBack (list_of read) (list_text text) xs
  list_back xs h path = ap (each_at read path 0) (elements_written (each text xs)) ∙ each_back path 0 xs h

  pub rising_back_from : (follows : A → A → Bool) (path : List ℕ) (i : ℕ) (before : Option A) (xs : List A) → AllByRecursion (ReadsBack read text) xs
      → Follow follows before xs
      → rising_at read follows path i before (each text xs) ≡ Ok xs
  rising_back_from follows path i before [] h f = refl
  rising_back_from follows path i before (x ∷ xs) h f =
      after (read (place_in path i) (text x)) x
      (λ a. if_good (place_in path i) (may_follow follows before a) a >>= λ b. rising_at read follows path (i + 1) (Some b) (each text xs)
      >>= λ rest. Ok (b ∷ rest))
      (Ok (x ∷ xs)) (h.0 (place_in path i))
      (after (if_good (place_in path i) (may_follow follows before x) x) x
      (λ b. rising_at read follows path (i + 1) (Some b) (each text xs) >>= λ rest. Ok (b ∷ rest))
      (Ok (x ∷ xs)) (good (place_in path i) (may_follow follows before x) x f.0)
      (after (rising_at read follows path (i + 1) (Some x) (each text xs)) xs (λ rest. Ok (x ∷ rest)) (Ok (x ∷ xs))
      (rising_back_from follows path (i + 1) (Some x) xs h.1 f.1) refl))

  pub rising_back : (follows : A → A → Bool) (xs : List A) → AllByRecursion (ReadsBack read text) xs → Follow follows None xs
      → ReadsBack (rising_of read follows) (list_text text) xs
  rising_back follows xs h f path = ap (rising_at read follows path 0 None) (elements_written (each text xs))
      ∙ rising_back_from follows path 0 None xs h f
