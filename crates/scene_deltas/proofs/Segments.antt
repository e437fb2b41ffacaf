-- The deltas of segments, as there are more of them, and those that are left of two lists.
use Rattle.std.proofs.Common.{◌≡◌, ◌<◌, ◌≤◌, ◌+◌, ◌-◌, ℕ, List, [], ◌∷◌, ◌++◌, length, take, drop, get_or, refl, ap, sym, ◌∙◌, arith, Some}
use Rattle.std.specs.Prelude.{slice_get}
use Rattle.std.proofs.lemmas.Grind.{flat_map-append}
use Rattle.std.proofs.lemmas.List.{append-nil, length-append, take-append-le, take_more, drop_more, drop-drop, drop_at, get_or_append_left, get_or-append_right}
use Rattle.std.proofs.lemmas.Option.{get_or_from_slice_get, slice_get_within}
use Rattle.scene_deltas.specs.declared.delta.Delta.{Delta}
use Rattle.scene_deltas.specs.declared.segment.Segment.{Segment}
use Rattle.scene_deltas.specs.Segments.{flat, front, shown}

-- ---- one more segment

pub flat_pushed : (ss : List Segment) (s : Segment) → flat (ss ++ s ∷ []) ≡ flat ss ++ shown s
flat_pushed ss s = flat_map-append shown ss (s ∷ []) ∙ ap (λ ds. flat ss ++ ds) (append-nil (shown s))

pub flat_appended : (ss ts : List Segment) → flat (ss ++ ts) ≡ flat ss ++ flat ts
flat_appended ss ts = flat_map-append shown ss ts

pub flat_from : (ss : List Segment) (i : ℕ) (s : Segment) → i < length ss → s ≡ get_or ss i s → flat (drop i ss) ≡ shown s ++ flat (drop (i + 1) ss)
flat_from ss i s l is = ap flat (drop_more ss i s l) ∙ ap (λ x. shown x ++ flat (drop (i + 1) ss)) (sym is)

pub count_pushed : (ss : List Segment) (s : Segment) → length (flat (ss ++ s ∷ [])) ≡ length (flat ss) + length (shown s)
count_pushed ss s = ap length (flat_pushed ss s) ∙ length-append (flat ss) (shown s)

-- ---- what is left of two lists, where so many deltas are gone

module _ (xs ys : List Delta) (n : ℕ) where
  pub drop_past : length xs ≤ n → drop n (xs ++ ys) ≡ drop (n - length xs) ys
  drop_past few =
      let sum : n ≡ length xs + (n - length xs) = omega (arith, few) in
      ap (λ k. drop k (xs ++ ys)) sum ∙ sym (drop-drop (n - length xs) (length xs) (xs ++ ys)) ∙ ap (drop (n - length xs)) (drop_at xs ys (length xs) refl)

  pub drop_within : (d : Delta) → slice_get xs n ≡ Some d → drop n (xs ++ ys) ≡ d ∷ drop (n + 1) (xs ++ ys)
  drop_within d there =
      let within = slice_get_within xs n d there in
      drop_more (xs ++ ys) n d (omega (arith, length-append xs ys, within))
      ∙ ap (λ x. x ∷ drop (n + 1) (xs ++ ys)) (get_or_append_left xs ys d n within ∙ get_or_from_slice_get xs n d d there)

  pub front_past : length ys ≤ n → front n (xs ++ ys) ≡ front (n - length ys) xs
  front_past few =
      let fewer : length (xs ++ ys) - n ≡ length xs - (n - length ys) = omega (arith, few, length-append xs ys) in
      ap (λ k. take k (xs ++ ys)) fewer ∙ take-append-le (length xs - (n - length ys)) xs ys (omega arith)

  pub front_within : (d : Delta) → n < length ys → slice_get ys (length ys - n - 1) ≡ Some d → front n (xs ++ ys) ≡ front (n + 1) (xs ++ ys) ++ d ∷ []
  front_within d low there =
      let all = length-append xs ys in
      let at = length (xs ++ ys) - (n + 1) in
      let next : length (xs ++ ys) - n ≡ at + 1 = omega (arith, all, low) in
      let within : at < length (xs ++ ys) = omega (arith, all, low) in
      let behind : length xs ≤ at = omega (arith, all, low) in
      let place : at - length xs ≡ length ys - n - 1 = omega (arith, all, low) in
      let last : get_or (xs ++ ys) at d ≡ d = get_or-append_right xs ys (length xs) at d refl behind ∙ ap (λ k. get_or ys k d) place ∙ get_or_from_slice_get ys (length ys - n - 1) d d there in
      ap (λ k. take k (xs ++ ys)) next ∙ take_more (xs ++ ys) at d within ∙ ap (λ x. take at (xs ++ ys) ++ x ∷ []) last
