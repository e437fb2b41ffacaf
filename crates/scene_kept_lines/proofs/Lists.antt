-- Lists that are equal, part by part.
use Rattle.std.proofs.Common.{◌≡◌, ◌⊎◌, List, [], ◌∷◌, ◌++◌, length, inl, inr, arith, refl, sym, ap, length-append}

pub cons_head : {A : Type 0} (x y : A) (xs ys : List A) → x ∷ xs ≡ y ∷ ys → x ≡ y
cons_head x y xs ys is = cc is

pub cons_tail : {A : Type 0} (x y : A) (xs ys : List A) → x ∷ xs ≡ y ∷ ys → xs ≡ ys
cons_tail x y xs ys is = cc is

-- An item stands in a list that another begins: within that one, or behind it.
abbrev pub Place : {A : Type 0} → (before : List A) (item : A) (behind : List A) (all more : List A) → Type 0
Place {A} before item behind all more =
    ((rest : List A) × (all ≡ before ++ item ∷ rest)) ⊎ ((others : List A) × (before ≡ all ++ others) × (more ≡ others ++ item ∷ behind))

pub placed : {A : Type 0} (before : List A) (item : A) (behind all more : List A) → before ++ item ∷ behind ≡ all ++ more
    → Place before item behind all more
placed before item behind [] more is = inr (before, refl, sym is)
placed [] item behind (a ∷ all) more is = inl (all, λ i. sym (cons_head item a behind (all ++ more) is) i ∷ all)
placed (x ∷ before) item behind (a ∷ all) more is =
    by (placed before item behind all more (cons_tail x a (before ++ item ∷ behind) (all ++ more) is))
  where
    same : x ≡ a
    same = cons_head x a (before ++ item ∷ behind) (all ++ more) is

    by : Place before item behind all more → Place (x ∷ before) item behind (a ∷ all) more
    by (inl (rest, here)) = inl (rest, λ i. sym same i ∷ here i)
    by (inr (others, here, there)) = inr (others, (λ i. same i ∷ here i), there)

-- as long ends of two equal lists are the same
pub ends_alike : {A : Type 0} (xs ys us vs : List A) → length us ≡ length vs → xs ++ us ≡ ys ++ vs → (xs ≡ ys) × (us ≡ vs)
ends_alike [] [] us vs size is = (refl, is)
ends_alike [] (y ∷ ys) us vs size is = absurd (omega (arith, size, ap length is, length-append (y ∷ ys) vs))
ends_alike (x ∷ xs) [] us vs size is = absurd (omega (arith, size, ap length is, length-append (x ∷ xs) us))
ends_alike (x ∷ xs) (y ∷ ys) us vs size is =
    let rest = ends_alike xs ys us vs size (cons_tail x y (xs ++ us) (ys ++ vs) is) in
    ((λ i. cons_head x y (xs ++ us) (ys ++ vs) is i ∷ rest.0 i), rest.1)
