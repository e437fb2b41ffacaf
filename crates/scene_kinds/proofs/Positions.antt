-- What a search from the front says of the list that it went over: of the place where it ends, or of the whole list
-- where it finds none.
use Rattle.std.proofs.Common.{◌≡◌, ◌∙◌, ℕ, suc, ◌+◌, Bool, true, false, cond, List, [], ◌∷◌, ◌++◌, length, refl, ap, subst, arith, Some, None, is_some}
use Rattle.std.specs.List.{position_from}

-- what holds of the first place where an element that passes stands there, and of the next place where one that doesn't
-- comes before
module _ {X : Type 0} (test : X → Bool) (At : List X → ℕ → Type 0) (here : (x : X) (xs : List X) → test x ≡ true → At (x ∷ xs) 0) (later : (x : X) (xs : List X) (k : ℕ) → test x ≡ false → At xs k → At (x ∷ xs) (suc k)) where
  found_from : (xs : List X) (n i : ℕ) → position_from test n xs ≡ Some i → (k : ℕ) × ((i ≡ n + k) × At xs k)
  found_from [] n i h = cc
  found_from (x ∷ xs) n i h =
      elim (test x) as (λ b. test x ≡ b → (k : ℕ) × ((i ≡ n + k) × At (x ∷ xs) k)) [
        | true ↦ λ t.
            let g : Some n ≡ Some i = rw t at h in
            let m : n ≡ i = cc in
            (0, (omega arith, here x xs t))
        | false ↦ λ t.
            let q = found_from xs (n + 1) i (rw t at h) in
            (suc q.0, (omega arith, later x xs q.0 t q.1.1))
      ] refl

  -- holds of the place where the search ends
  pub found : (xs : List X) (i : ℕ) → position_from test 0 xs ≡ Some i → At xs i
  found xs i h =
      let q = found_from xs 0 i h in
      let e : q.0 ≡ i = omega arith in subst (At xs) e q.1.1

-- what holds of the empty list, and stays when an element that doesn't pass comes before
module _ {X : Type 0} (test : X → Bool) (Of : List X → Type 0) (none : Of []) (more : (x : X) (xs : List X) → test x ≡ false → Of xs → Of (x ∷ xs)) where
  missed_from : (xs : List X) (n : ℕ) → position_from test n xs ≡ None → Of xs
  missed_from [] n h = none
  missed_from (x ∷ xs) n h =
      elim (test x) as (λ b. test x ≡ b → Of (x ∷ xs)) [
        | true ↦ λ t. absurd (let g : Some n ≡ None = rw t at h in cc)
        | false ↦ λ t. more x xs t (missed_from xs (n + 1) (rw t at h))
      ] refl

  -- holds of the list in which the search finds none
  pub missed : (xs : List X) → position_from test 0 xs ≡ None → Of xs
  missed xs h = missed_from xs 0 h

-- a search that ended goes as far in a longer list
pub found_in_more : {X : Type 0} (test : X → Bool) (xs ys : List X) (n i : ℕ) → position_from test n xs ≡ Some i → position_from test n (xs ++ ys) ≡ Some i
found_in_more test [] ys n i h = absurd (let g : None ≡ Some i = h in cc)
found_in_more test (x ∷ xs) ys n i h =
    elim (test x) as (λ b. cond b (Some n) (position_from test (n + 1) xs) ≡ Some i → cond b (Some n) (position_from test (n + 1) (xs ++ ys)) ≡ Some i) [
      | true ↦ λ g. g
      | false ↦ λ g. found_in_more test xs ys (n + 1) i g
    ] h

-- one that found none ends at an element that passes and comes last
pub found_last : {X : Type 0} (test : X → Bool) (xs : List X) (y : X) (n : ℕ) → is_some (position_from test n xs) ≡ false → test y ≡ true → position_from test n (xs ++ y ∷ []) ≡ Some (n + length xs)
found_last test [] y n h t = ap (λ b. cond b (Some n) None) t ∙ ap (λ (k : ℕ). Some k) (omega arith)
found_last test (x ∷ xs) y n h t =
    elim (test x) as (λ b. is_some (cond b (Some n) (position_from test (n + 1) xs)) ≡ false → cond b (Some n) (position_from test (n + 1) (xs ++ y ∷ [])) ≡ Some (n + suc (length xs))) [
      | true ↦ λ g. absurd (let k : true ≡ false = g in cc)
      | false ↦ λ g. found_last test xs y (n + 1) g t ∙ ap (λ (k : ℕ). Some k) (omega arith)
    ] h
