-- A JSON list that is written element by element.
use Rattle.std.proofs.Common.{◌≡◌, ◌+◌, ℕ, List, ◌∷◌, ◌++◌, append_assoc, length, drop, ap, sym, ◌∙◌, Some}
use Rattle.std.specs.Prelude.{◌≤◌, Bool, true, false, Result, Ok, Err, is_ok, OnOk, if◌then◌else◌, codes, slice_get, option_map}
use Rattle.std.proofs.lemmas.List.{at_drop_more, drop_all}
use Rattle.std.proofs.lemmas.Option.{slice_get_within, get_or_from_slice_get}
use Rattle.serde_json.specs.Data.{Data}
use Rattle.serde_json.specs.Written.{compact_text, comma_if}
use Rattle.scene_json_forms.specs.Text.{list_text}
use Rattle.scene_json_forms.specs.Printing.{rest_text}

-- the rest of a list from an element on: a comma where it isn't the first, the element, and the rest behind it
rest_step : {A : Type 0} (later : Bool) (text : A → Data) (xs : List A) (at : ℕ) (x : A) → slice_get xs at ≡ Some x
    → rest_text later text (drop at xs) ≡ comma_if later ++ (compact_text (text x) ++ rest_text true text (drop (at + 1) xs))
rest_step later text xs at x there =
    at_drop_more (rest_text later text) xs at x (slice_get_within xs at x there)
    ∙ ap (λ y. rest_text later text (y ∷ drop (at + 1) xs)) (get_or_from_slice_get xs at x x there)

-- an element is written, after its comma: what is there and what is to come stay the whole
pub written : {A : Type 0} (later : Bool) (text : A → Data) (xs : List A) (at : ℕ) (x : A) (there comma after all : List ℕ) → slice_get xs at ≡ Some x
    → there ++ rest_text later text (drop at xs) ≡ all → comma ≡ there ++ comma_if later → after ≡ comma ++ compact_text (text x)
    → after ++ rest_text true text (drop (at + 1) xs) ≡ all
written later text xs at x there comma after all found whole first second =
    let rest : List ℕ = rest_text true text (drop (at + 1) xs) in
    ap (λ b. b ++ rest) second ∙ append_assoc comma (compact_text (text x)) rest
    ∙ ap (λ b. b ++ (compact_text (text x) ++ rest)) first ∙ append_assoc there (comma_if later) (compact_text (text x) ++ rest)
    ∙ ap (λ r. there ++ r) (sym (rest_step later text xs at x found)) ∙ whole

-- the bracket is written behind the last element
pub closed : {A : Type 0} (later : Bool) (text : A → Data) (xs : List A) (at : ℕ) (old opened there after : List ℕ) → length xs ≤ at
    → there ++ rest_text later text (drop at xs) ≡ opened ++ rest_text false text xs → opened ≡ old ++ codes "[" → after ≡ there ++ codes "]"
    → after ≡ old ++ compact_text (list_text text xs)
closed {A = A} later text xs at old opened there after past whole first last =
    last ∙ ap (λ (ys : List A). there ++ rest_text later text ys) (sym (drop_all at xs past)) ∙ whole
    ∙ ap (λ b. b ++ rest_text false text xs) first ∙ append_assoc old (codes "[") (rest_text false text xs)

-- what a last call has written where it was accepted
pub accepted : {X E : Type 0} {Q : Type 0} (r : Result X E) (after new before : List ℕ) → after ≡ (if is_ok r then new else before)
    → (after ≡ new → Q) → OnOk r Q
accepted (Ok x) after new before h k = k h
accepted (Err e) after new before h k = tt

-- what holds where a call was accepted, and what follows from it
pub so : {X E : Type 0} {P Q : Type 0} (r : Result X E) → OnOk r P → (P → Q) → OnOk r Q
so (Ok x) h k = k h
so (Err e) h k = tt

-- a text that is written, and then the rest
pub chain : (old a rest s1 s2 : List ℕ) → s1 ≡ old ++ a → s2 ≡ s1 ++ rest → s2 ≡ old ++ (a ++ rest)
chain old a rest s1 s2 h k = k ∙ ap (λ s. s ++ rest) h ∙ append_assoc old a rest

-- what is written is the text of the whole
pub as_text : (old bytes text new : List ℕ) → text ≡ bytes → new ≡ old ++ bytes → new ≡ old ++ text
as_text old bytes text new is h = h ∙ ap (λ t. old ++ t) (sym is)

-- the text of what was found is that of what it is
pub seen_as : {A : Type 0} {x y : A} (text : A → List ℕ) (old new : List ℕ) → new ≡ old ++ text x → x ≡ y → new ≡ old ++ text y
seen_as text old new h is = h ∙ ap (λ z. old ++ text z) is

-- five texts that are written one after another
pub five : (old a b c d e s1 s2 s3 s4 s5 text : List ℕ) → text ≡ a ++ (b ++ (c ++ (d ++ e))) → s1 ≡ old ++ a → s2 ≡ s1 ++ b → s3 ≡ s2 ++ c → s4
    ≡ s3 ++ d → s5 ≡ s4 ++ e
    → s5 ≡ old ++ text
five old a b c d e s1 s2 s3 s4 s5 text h h1 h2 h3 h4 h5 =
    chain old a (b ++ (c ++ (d ++ e))) s1 s5 h1 (chain s1 b (c ++ (d ++ e)) s2 s5 h2 (chain s2 c (d ++ e) s3 s5 h3 (chain s3 d e s4 s5 h4 h5)))
    ∙ ap (λ t. old ++ t) (sym h)

-- what is read of a row at a place is that row's
pub read_of : {A X : Type 0} (f : A → X) (xs : List A) (at : ℕ) (y : A) (x : X) → slice_get xs at ≡ Some y → option_map f (slice_get xs at)
    ≡ Some x → f y ≡ x
read_of f xs at y x there read = let same : Some (f y) ≡ Some x = ap (option_map f) (sym there) ∙ read in cc
