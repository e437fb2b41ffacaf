-- A JSON object that is written member by member, and a list whose elements come one by one.
use Rattle.std.proofs.Common.{◌≡◌, ◌+◌, ℕ, List, [], ◌∷◌, ◌++◌, append_assoc, length, drop, ap, sym, ◌∙◌, Some}
use Rattle.std.specs.Prelude.{◌≤◌, Bool, true, false, codes, slice_get}
use Rattle.std.proofs.lemmas.List.{at_drop_more, drop_all}
use Rattle.std.proofs.lemmas.Option.{slice_get_within, get_or_from_slice_get}
use Rattle.json.specs.Print.{quoted}
use Rattle.serde_json.specs.Data.{Data}
use Rattle.serde_json.specs.Written.{compact_text, comma_if}
use Rattle.scene_print.specs.JsonObjects.{object_by}
use Rattle.scene_print.specs.JsonSteps.{left_text, member_text}

-- the rest of an object from a member on: a comma where it isn't the first, the member, and the rest behind it
one_more : {A : Type 0} (later : Bool) (member : A → List ℕ × Data) (x : A) (xs : List A)
    → left_text later member (x ∷ xs) ≡ comma_if later ++ (member_text (member x) ++ left_text true member xs)
one_more later member x xs =
    let m = member x in
    let rest : List ℕ = left_text true member xs in
    ap (λ t. comma_if later ++ t) (sym (append_assoc (quoted m.0) (58 ∷ compact_text m.1) rest))

-- the next member is written, after its comma: what is there and what is to come stay the whole
pub next_written : {A : Type 0} (later : Bool) (member : A → List ℕ × Data) (x : A) (left more : List A) (there comma after all : List ℕ)
    → left ≡ x ∷ more → there ++ left_text later member left ≡ all
    → comma ≡ there ++ comma_if later → after ≡ comma ++ member_text (member x) → after ++ left_text true member more ≡ all
next_written {A = A} later member x left more there comma after all next whole first second =
    let rest : List ℕ = left_text true member more in
    let one : List ℕ = member_text (member x) in
    ap (λ b. b ++ rest) second ∙ append_assoc comma one rest
    ∙ ap (λ b. b ++ (one ++ rest)) first ∙ append_assoc there (comma_if later) (one ++ rest)
    ∙ ap (λ r. there ++ r) (sym (one_more later member x more))
    ∙ ap (λ (ys : List A). there ++ left_text later member ys) (sym next) ∙ whole

-- the brace is written behind the last member
pub brace_written : {A : Type 0} (later : Bool) (member : A → List ℕ × Data) (xs left : List A) (old opened there after : List ℕ) → left ≡ []
    → there ++ left_text later member left ≡ opened ++ left_text false member xs → opened ≡ old ++ codes "{" → after ≡ there ++ codes "}"
    → after ≡ old ++ compact_text (object_by member xs)
brace_written {A = A} later member xs left old opened there after none whole first last =
    last ∙ ap (λ (ys : List A). there ++ left_text later member ys) (sym none) ∙ whole
    ∙ ap (λ b. b ++ left_text false member xs) first ∙ append_assoc old (codes "{") (left_text false member xs)

-- the elements from a place on are the one there and those behind it
pub from_place : {A : Type 0} (xs : List A) (at : ℕ) (x : A) → slice_get xs at ≡ Some x → drop at xs ≡ x ∷ drop (at + 1) xs
from_place {A = A} xs at x there =
    at_drop_more (λ (ys : List A). ys) xs at x (slice_get_within xs at x there)
    ∙ ap (λ y. y ∷ drop (at + 1) xs) (get_or_from_slice_get xs at x x there)

-- the same where the members go by the elements of a list in their places
pub member_written : {A : Type 0} (later : Bool) (member : A → List ℕ × Data) (xs : List A) (at : ℕ) (x : A) (there comma after all : List ℕ)
    → slice_get xs at ≡ Some x → there ++ left_text later member (drop at xs) ≡ all
    → comma ≡ there ++ comma_if later → after ≡ comma ++ member_text (member x) → after ++ left_text true member (drop (at + 1) xs) ≡ all
member_written later member xs at x there comma after all found whole first second =
    next_written later member x (drop at xs) (drop (at + 1) xs) there comma after all (from_place xs at x found) whole first second

pub closed_object : {A : Type 0} (later : Bool) (member : A → List ℕ × Data) (xs : List A) (at : ℕ) (old opened there after : List ℕ)
    → length xs ≤ at → there ++ left_text later member (drop at xs) ≡ opened ++ left_text false member xs → opened ≡ old ++ codes "{"
    → after ≡ there ++ codes "}" → after ≡ old ++ compact_text (object_by member xs)
closed_object later member xs at old opened there after past whole first last =
    brace_written later member xs (drop at xs) old opened there after (drop_all at xs past) whole first last
