-- A part of a list up to a place.
use Rattle.std.proofs.Common.{◌≡◌, ◌<◌, ◌≤◌, ◌∙◌, ℕ, zero, suc, List, [], ◌∷◌, ◌++◌, None, Some, ap, append_assoc, arith, drop, length, slice_get, sym, take}
use Rattle.std.specs.Prelude.{Bool, codes, false}
use Rattle.std.proofs.lemmas.List.{drop_all}
use Rattle.serde_json.specs.Data.{Data}
use Rattle.serde_json.specs.Written.{compact_text}
use Rattle.scene_json_forms.specs.Printing.{rest_text}
use Rattle.scene_json_forms.specs.Text.{list_text}

-- an element before the end of a part stands in it
pub within : {A : Type 0} (xs : List A) (at to : ℕ) (x : A) → at < to → slice_get xs at ≡ Some x → slice_get (take to xs) at ≡ Some x
within [] at to x low there = absurd (cc there)
within (y ∷ ys) at zero x low there = absurd (omega arith)
within (y ∷ ys) zero (suc to) x low there = there
within (y ∷ ys) (suc at) (suc to) x low there = within ys at to x (omega arith) there

-- where there is no element the part is over
pub past_end : {A : Type 0} (xs : List A) (at to : ℕ) → slice_get xs at ≡ None → length (take to xs) ≤ at
past_end {A = A} [] at to none = short at to
  where
    short : (at to : ℕ) → length (take {A = A} to []) ≤ at
    short at zero = omega arith
    short at (suc to) = omega arith
past_end (y ∷ ys) at zero none = omega arith
past_end (y ∷ ys) zero (suc to) none = absurd (cc none)
past_end (y ∷ ys) (suc at) (suc to) none = let on = past_end ys at to none in omega (arith, on)

-- and at its end
pub past_part : {A : Type 0} (xs : List A) (at to : ℕ) → to ≤ at → length (take to xs) ≤ at
past_part [] at zero low = omega arith
past_part [] at (suc to) low = omega arith
past_part (y ∷ ys) at zero low = omega arith
past_part (y ∷ ys) zero (suc to) low = absurd (omega (arith, low))
past_part (y ∷ ys) (suc at) (suc to) low = let on = past_part ys at to (omega (arith, low)) in omega (arith, on)

-- the bracket is written behind the last element of a part
pub closed_part : {A : Type 0} (later : Bool) (text : A → Data) (xs ys : List A) (at : ℕ) (old opened there after : List ℕ) → length xs ≤ at
    → there ++ rest_text later text (drop at xs) ≡ opened ++ rest_text false text ys → opened ≡ old ++ codes "[" → after ≡ there ++ codes "]"
    → after ≡ old ++ compact_text (list_text text ys)
closed_part {A = A} later text xs ys at old opened there after past whole first last =
    last ∙ ap (λ (zs : List A). there ++ rest_text later text zs) (sym (drop_all at xs past)) ∙ whole
    ∙ ap (λ b. b ++ rest_text false text ys) first ∙ append_assoc old (codes "[") (rest_text false text ys)
