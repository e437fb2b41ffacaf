-- One list of a past and a future, by its places: the past from place d to place m, the future from there on.
use Rattle.std.proofs.Common.{◌≡◌, ◌≢◌, ◌<◌, ◌≤◌, ◌+◌, ◌-◌, ℕ, suc, List, [], ◌∷◌, ◌++◌, length, take, drop, get_or, get_or-set_other, reverse, slice_set, ap, sym, ◌∙◌, arith}
use Rattle.std.specs.List.{swap}
use Rattle.std.proofs.lemmas.List.{take_more, take_more_set, take-set-le, drop_more, take_all, take_at, take-take, drop-take, drop-append-le, drop-set-lt, get_or-drop, reverse-append, length-append, length-drop, length-reverse, length-take-le}
use Rattle.std.proofs.lemmas.List.Edits.{swap_is}
use Rattle.std.proofs.Math.ListN.{drop_of_length-le}

module _ {A : Type 0} where
  -- what stands at a place
  pub stands : (xs : List A) (i : ℕ) → i < length xs → (a : A) × (a ≡ get_or xs i a)
  stands [] i low = absurd (omega (arith, low))
  stands (x ∷ xs) i low = (get_or (x ∷ xs) i x, get_or_same (x ∷ xs) i x low)
    where
      get_or_same : (ys : List A) (i : ℕ) (d : A) → i < length ys → get_or ys i d ≡ get_or ys i (get_or ys i d)
      get_or_same ys i d low = let here = drop_more ys i d low in let there = drop_more ys i (get_or ys i d) low in
          let both : get_or ys i d ∷ drop (i + 1) ys ≡ get_or ys i (get_or ys i d) ∷ drop (i + 1) ys = sym here ∙ there in cc

  long : (xs : List A) (d m : ℕ) → d ≤ m → m ≤ length xs → d ≤ length (take m xs)
  long xs d m low short = let is = length-take-le m xs short in omega (arith, is, low)

  -- a past that isn't empty has a place
  pub has_past : (xs : List A) (d m : ℕ) → m ≤ length xs → 0 < length (reverse (drop d (take m xs))) → d < m
  has_past xs d m short some =
      let turned : length (reverse (drop d (take m xs))) ≡ length (drop d (take m xs)) = length-reverse (drop d (take m xs)) in
      let less : length (drop d (take m xs)) ≡ length (take m xs) - d = length-drop d (take m xs) in
      let all = length-take-le m xs short in
      omega (arith, some, turned, less, all)

  -- and so has a future
  pub has_future : (xs : List A) (m : ℕ) → 0 < length (drop m xs) → m < length xs
  has_future xs m some = let less : length (drop m xs) ≡ length xs - m = length-drop m xs in omega (arith, some, less)

  -- a past that goes on to the next place
  pub one_later : (xs : List A) (d m : ℕ) (a : A) → d ≤ m → m < length xs → a ≡ get_or xs m a
      → reverse (drop d (take (m + 1) xs)) ≡ a ∷ reverse (drop d (take m xs))
  one_later xs d m a low short is =
      let within : m ≤ length xs = omega (arith, short) in
      ap (λ ys. reverse (drop d ys)) (take_more xs m a short ∙ ap (λ b. take m xs ++ b ∷ []) (sym is))
      ∙ ap reverse (drop-append-le d (take m xs) (a ∷ []) (long xs d m low within))
      ∙ reverse-append (drop d (take m xs)) (a ∷ [])

  -- a future that begins at the next place
  pub one_behind : (xs : List A) (m : ℕ) (a : A) → m < length xs → a ≡ get_or xs m a → drop m xs ≡ a ∷ drop (m + 1) xs
  one_behind xs m a short is = drop_more xs m a short ∙ ap (λ b. b ∷ drop (m + 1) xs) (sym is)

  -- a further record behind a past that is cut there
  pub pushed : (xs : List A) (d m : ℕ) (a : A) → d ≤ m → m ≤ length xs
      → reverse (drop d (take (m + 1) (take m xs ++ a ∷ []))) ≡ a ∷ reverse (drop d (take m xs))
  pushed xs d m a low short =
      let one : length (take m xs ++ a ∷ []) ≡ length (take m xs) + 1 = length-append (take m xs) (a ∷ []) in
      let is = length-take-le m xs short in
      let whole : length (take m xs ++ a ∷ []) ≤ m + 1 = omega (arith, one, is) in
      ap (λ ys. reverse (drop d ys)) (take_all (m + 1) (take m xs ++ a ∷ []) whole)
      ∙ ap reverse (drop-append-le d (take m xs) (a ∷ []) (long xs d m low short))
      ∙ reverse-append (drop d (take m xs)) (a ∷ [])

  pub none_behind : (xs : List A) (m : ℕ) (a : A) → m ≤ length xs → drop (m + 1) (take m xs ++ a ∷ []) ≡ []
  none_behind xs m a short =
      let one : length (take m xs ++ a ∷ []) ≡ length (take m xs) + 1 = length-append (take m xs) (a ∷ []) in
      let is = length-take-le m xs short in
      drop_of_length-le (take m xs ++ a ∷ []) (omega (arith, one, is))

  -- the past by how many places it has
  pub along : (xs : List A) (d m : ℕ) → d ≤ m → drop d (take m xs) ≡ take (m - d) (drop d xs)
  along xs d m low =
      let is : m ≡ d + (m - d) = omega (arith, low) in
      ap (λ n. drop d (take n xs)) is ∙ drop-take d (m - d) xs

  -- a list without its last
  without_last : (ys : List A) (a : A) → take (length (reverse (a ∷ ys)) - 1) (reverse (a ∷ ys)) ≡ reverse ys
  without_last ys a =
      let is : reverse (a ∷ ys) ≡ reverse ys ++ a ∷ [] = reverse-append (a ∷ []) ys in
      let one : length (reverse ys ++ a ∷ []) ≡ length (reverse ys) + 1 = length-append (reverse ys) (a ∷ []) in
      let few : length (reverse ys) ≡ length (reverse ys ++ a ∷ []) - 1 = omega (arith, one) in
      ap (λ zs. take (length zs - 1) zs) is ∙ take_at (reverse ys) (a ∷ []) (length (reverse ys ++ a ∷ []) - 1) few

  -- the oldest record is emptied, and the past begins behind it
  pub oldest_gone : (xs : List A) (d m : ℕ) (a : A) → d < m → m ≤ length xs
      → reverse (drop (d + 1) (take m (slice_set xs d a))) ≡ take (length (reverse (drop d (take m xs))) - 1) (reverse (drop d (take m xs)))
  oldest_gone xs d m a low short =
      let within : d < length xs = omega (arith, low, short) in
      let first = stands xs d within in
      let next : d + 1 ≤ m = omega (arith, low) in
      let before : d ≤ m = omega (arith, low) in
      let behind : d < d + 1 = omega arith in
      let j = m - (d + 1) in
      let more : m - d ≡ suc j = omega (arith, low) in
      let rest = take j (drop (d + 1) xs) in
      let all : drop d (take m xs) ≡ first.0 ∷ rest =
      along xs d m before
      ∙ ap (λ zs. take (m - d) zs) (one_behind xs d first.0 within first.1)
      ∙ ap (λ n. take n (first.0 ∷ drop (d + 1) xs)) more in
      ap reverse (along (slice_set xs d a) (d + 1) m next ∙ ap (take j) (drop-set-lt (d + 1) xs d a behind))
      ∙ sym (without_last rest first.0)
      ∙ ap (λ ys. take (length (reverse ys) - 1) (reverse ys)) (sym all)

  -- one more of the last comes to the front
  pub brought : (xs zs : List A) (f p : ℕ) (d : A) → length xs ≡ length zs → f + p < length xs → length xs ≤ f + f
      → take p xs ≡ take p (drop f zs) → get_or xs (f + p) d ≡ get_or zs (f + p) d
      → take (p + 1) (swap xs p (f + p)) ≡ take (p + 1) (drop f zs)
  brought xs zs f p d long low few front here =
      let n : length (drop f zs) ≡ length zs - f = length-drop f zs in
      let within : p < length (drop f zs) = omega (arith, n, long, low) in
      let first : p < length xs = omega (arith, low) in
      let later : p + 1 ≤ f + p = omega (arith, low, few) in
      let b = get_or xs (f + p) d in
      ap (take (p + 1)) (sym (swap_is xs p (f + p) d first low))
      ∙ take-set-le (p + 1) (slice_set xs p b) (f + p) (get_or xs p d) later
      ∙ take_more_set xs p b first
      ∙ ap (λ ys. ys ++ b ∷ []) front
      ∙ ap (λ e. take p (drop f zs) ++ e ∷ []) (here ∙ sym (get_or-drop f zs p d))
      ∙ sym (take_more (drop f zs) p d within)

  -- what stands behind it stays
  pub left_behind : (xs : List A) (f p k : ℕ) (d : A) → f + p < length xs → length xs ≤ f + f → f + (p + 1) ≤ k
      → get_or (swap xs p (f + p)) k d ≡ get_or xs k d
  left_behind xs f p k d low few l =
      let first : p < length xs = omega (arith, low) in
      let ne : k ≢ p = omega (arith, l, low, few) in
      let other : k ≢ f + p = omega (arith, l) in
      ap (λ ys. get_or ys k d) (sym (swap_is xs p (f + p) d first low))
      ∙ get_or-set_other (slice_set xs p (get_or xs (f + p) d)) (f + p) k (get_or xs p d) d other
      ∙ get_or-set_other xs p k (get_or xs (f + p) d) d ne

  -- what is left of a past of which more was left before
  pub cut_again : (n m : ℕ) (ys : List A) → n ≤ m → take n (take m ys) ≡ take n ys
  cut_again n m ys low = take-take n m ys low
