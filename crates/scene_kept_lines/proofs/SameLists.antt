-- Lists that are compared item by item.
use Rattle.std.proofs.Common.{◌≡◌, ℕ, ◌+◌, ◌<◌, ◌≤◌, List, [], ◌∷◌, ◌++◌, length, get_or, take, sym, ap, subst, ◌∙◌, add-one}
use Rattle.std.proofs.Math.Seq.{take-suc}
use Rattle.std.proofs.lemmas.List.{take_all}

-- an item more
take_more : {A : Type 0} (xs : List A) (at : ℕ) (x : A) → at < length xs → x ≡ get_or xs at x → take (at + 1) xs ≡ take at xs ++ x ∷ []
take_more xs at x within is = ap (λ k. take k xs) (add-one at) ∙ take-suc xs at x within ∙ ap (λ r. take at xs ++ r ∷ []) (sym is)

-- lists whose first items are the same, and whose next ones are
pub same_further : {A : Type 0} (xs ys : List A) (at : ℕ) (x y : A) → at < length xs → length xs ≡ length ys → take at xs ≡ take at ys
    → x ≡ get_or xs at x → y ≡ get_or ys at y → x ≡ y → take (at + 1) xs ≡ take (at + 1) ys
same_further xs ys at x y within long same is_x is_y eq =
    take_more xs at x within is_x ∙ ap (λ zs. zs ++ x ∷ []) same ∙ ap (λ r. take at ys ++ r ∷ []) eq ∙ sym (take_more ys at y (subst (λ n. at < n) long within) is_y)

-- lists that are the same to their end
pub same_whole : {A : Type 0} (xs ys : List A) (at : ℕ) → length xs ≤ at → length xs ≡ length ys → take at xs ≡ take at ys → xs ≡ ys
same_whole xs ys at whole long same = sym (take_all at xs whole) ∙ same ∙ take_all at ys (subst (λ n. n ≤ at) long whole)
