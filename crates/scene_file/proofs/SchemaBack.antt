-- The kinds of a schema that were written are read again.
use Rattle.std.proofs.Common.{◌≡◌, ℕ, ◌+◌, ◌<◌, true, cond, not, List, [], ◌∷◌, ◌++◌, length, refl, ap, sym, subst, ◌∙◌, arith, Some, None, Ok, is_some, append_assoc, nat_lt}
use Rattle.std.specs.Prelude.{map as each, slice_get}
use Rattle.std.specs.Str.{bytes_eq}
use Rattle.std.proofs.lemmas.Bool.{lt-ltb}
use Rattle.std.proofs.lemmas.List.{append-nil}
use Rattle.std.proofs.lemmas.Option.{get_or_from_slice_get, slice_get_within, same_Some}
use Rattle.scene_kinds.specs.declared.shape.Shape.{Shape}
use Rattle.scene_kinds.specs.declared.fault.Fault.TheVariants.{BadName, KindTaken, KindsFull}
use Rattle.scene_kinds.specs.Answers.{refuse}
use Rattle.scene_kinds.specs.Schema.{Kinds, IsSchema, is_good_name, number_of, with_kind}
use Rattle.scene_kinds.proofs.Positions.{found, found_in_more}
use Rattle.scene_json_forms.specs.Reading.{◌>>=◌, list_at, place_in}
use Rattle.scene_json_forms.specs.Text.{list_text, shape_text}
use Rattle.scene_file.specs.Text.{kind_text}
use Rattle.scene_json_forms.specs.Walk.{shape_at}
use Rattle.scene_file.specs.Walk.{kind_parts, added, kinds_from, kinds_at}
use Rattle.scene_json_forms.proofs.ListsBack.{ReadsBack, after, elements_written}
use Rattle.scene_json_forms.proofs.ValuesBack.{shape_back}

-- what stands behind a list stands at its length
at_length : {X : Type 0} (xs ys : List X) (x : X) → slice_get (xs ++ x ∷ ys) (length xs) ≡ Some x
at_length [] ys x = refl
at_length (y ∷ xs) ys x = at_length xs ys x

-- the search for a name ends within the kinds
within : (kinds : Kinds) (name : List ℕ) (i : ℕ) → number_of kinds name ≡ Some i → i < length kinds
within kinds name i h = found (λ (k : List ℕ × Shape). bytes_eq name k.0) (λ ks n. n < length ks) (λ k ks t. omega arith)
    (λ k ks n t l. omega (arith, l)) kinds i h

-- the name of a kind isn't taken before it
not_taken : (before behind : Kinds) (k : List ℕ × Shape) → IsSchema (before ++ k ∷ behind) → number_of before k.0 ≡ None
not_taken before behind k s = elim (number_of before k.0) as (λ o. number_of before k.0 ≡ o → o ≡ None) [
  | None ↦ λ e. refl
  | Some i ↦ λ e.
      let there = found_in_more (λ (x : List ℕ × Shape). bytes_eq k.0 x.0) before (k ∷ behind) 0 i e in
      let own = s.found (length before) k (at_length before behind k) in
      let same : i ≡ length before = same_Some i (length before) (sym there ∙ own) in
      let l = within before k.0 i e in absurd (omega arith)
] refl

-- so it is added
new_kind : (before behind : Kinds) (k : List ℕ × Shape) → IsSchema (before ++ k ∷ behind)
    → with_kind before k.0 k.1 ≡ Ok (length before, before ++ k ∷ [])
new_kind before behind k s =
    let place = at_length before behind k in
    let here = slice_get_within (before ++ k ∷ behind) (length before) k place in
    let good : is_good_name k.0 ≡ true = ap (λ (x : List ℕ × Shape). is_good_name x.0)
    (sym (get_or_from_slice_get (before ++ k ∷ behind) (length before) k k place)) ∙ s.good (length before) k here in
    let few : length before < 64 = omega (arith, s.few, here) in
    ap (λ b. cond (not b) (refuse BadName)
    (cond (is_some (number_of before k.0)) (refuse KindTaken)
    (cond (nat_lt (length before) 64) (Ok (length before, before ++ k ∷ [])) (refuse KindsFull)))) good
    ∙ ap (λ o. cond (is_some o) (refuse KindTaken) (cond (nat_lt (length before) 64) (Ok (length before, before ++ k ∷ [])) (refuse KindsFull)))
    (not_taken before behind k s)
    ∙ ap (λ b. cond b (Ok (length before, before ++ k ∷ [])) (refuse KindsFull)) (lt-ltb (length before) 64 few)

kinds_from_back : (before rest : Kinds) → IsSchema (before ++ rest) → (path : List ℕ) (i : ℕ)
    → kinds_from path i before (each kind_text rest) ≡ Ok (before ++ rest)
kinds_from_back before [] s path i = ap (λ ks. Ok ks) (sym (append-nil before))
kinds_from_back before (k ∷ ks) s path i =
    after (list_at (place_in path i) (kind_text k) >>= kind_parts (place_in path i)) k
    (λ kind. added (place_in path i) (with_kind before kind.0 kind.1) >>= λ more. kinds_from path (i + 1) more (each kind_text ks))
    (Ok (before ++ k ∷ ks))
    (after (shape_at (place_in (place_in path i) 1) (shape_text k.1)) k.1 (λ shape. Ok (k.0, shape)) (Ok k)
    (shape_back k.1 (place_in (place_in path i) 1)) refl)
    (after (added (place_in path i) (with_kind before k.0 k.1)) (before ++ k ∷ []) (λ more. kinds_from path (i + 1) more (each kind_text ks))
    (Ok (before ++ k ∷ ks))
    (ap (added (place_in path i)) (new_kind before ks k s))
    (kinds_from_back (before ++ k ∷ []) ks (subst IsSchema (sym (append_assoc before (k ∷ []) ks)) s) path (i + 1)
    ∙ ap (λ xs. Ok xs) (append_assoc before (k ∷ []) ks)))

pub kinds_back : (kinds : Kinds) → IsSchema kinds → ReadsBack kinds_at (list_text kind_text) kinds
kinds_back kinds s path = ap (kinds_from path 0 []) (elements_written (each kind_text kinds)) ∙ kinds_from_back [] kinds s path 0
