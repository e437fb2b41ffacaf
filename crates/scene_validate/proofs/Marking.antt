-- One more mark, and what the marks of a whole list say.
use Rattle.std.proofs.Common.{◌≡◌, ℕ, zero, suc, ◌+◌, ◌<◌, ◌≤◌, Bool, true, false, not, cond, ◌&&◌, List, [], ◌∷◌, ◌++◌, length, take, drop, refl, ap, sym, subst, ◌∙◌, get_or, nat_eq, nat_lt, set, inl, inr}
use Rattle.std.specs.Prelude.{◌||◌, replicate}
use Rattle.std.specs.List.{list_all, list_any}
use Rattle.std.proofs.lemmas.Bool.{eqb-true, eq-eqb, ne_eqb, ltb-true, cases_eq}
use Rattle.std.proofs.lemmas.List.{take_more, get_or-set_same, get_or-set_other, length-set, take-append-drop, length-replicate, take_all}
use Rattle.std.proofs.lemmas.List.Folds.{list_any-append, list_all-append}
use Rattle.scene_validate.specs.Rules.{are_distinct}
use Rattle.scene_validate.specs.Marks.{is_marked, AreMarks, are_places}
use Rattle.scene_validate.proofs.Tests.{and_is, and_of, same_tests}

-- equality of numbers is the same both ways
pub same_ways : (a b : ℕ) → nat_eq a b ≡ nat_eq b a
same_ways a b = same_tests (nat_eq a b) (nat_eq b a) (λ h. eq-eqb b a (sym (eqb-true a b h))) (λ h. eq-eqb a b (sym (eqb-true b a h)))

module _ {X : Type 0} (same : X → X → Bool) (ways : (x y : X) → same x y ≡ same y x) where
  -- elements and one more are distinct, where the elements are and the one isn't among them
  pub distinct_push : (xs : List X) (y : X) → are_distinct same (xs ++ y ∷ []) ≡ (are_distinct same xs && not (list_any (same y) xs))
  distinct_push [] y = refl
  distinct_push (x ∷ xs) y =
      ap (λ b. b && are_distinct same (xs ++ y ∷ [])) (list_all-append (λ z. not (same x z)) xs (y ∷ []))
      ∙ ap (λ b. (list_all (λ z. not (same x z)) xs && (not (same x y) && true)) && b) (distinct_push xs y)
      ∙ ap (λ b. (list_all (λ z. not (same x z)) xs && (not b && true)) && (are_distinct same xs && not (list_any (same y) xs))) (ways x y)
      ∙ shuffle (list_all (λ z. not (same x z)) xs) (are_distinct same xs) (same y x) (list_any (same y) xs)
    where
      shuffle : (a b c d : Bool) → ((a && (not c && true)) && (b && not d)) ≡ ((a && b) && not (c || d))
      shuffle true true true d = refl
      shuffle true true false d = refl
      shuffle true false true d = refl
      shuffle true false false d = refl
      shuffle false b c d = refl

  -- the front of distinct elements is distinct
  pub distinct_front : (xs ys : List X) → are_distinct same (xs ++ ys) ≡ true → are_distinct same xs ≡ true
  distinct_front [] ys h = refl
  distinct_front (x ∷ xs) ys h =
      let k = and_is (list_all (λ z. not (same x z)) (xs ++ ys)) (are_distinct same (xs ++ ys)) h in
      and_of (list_all (λ z. not (same x z)) xs) (are_distinct same xs)
      (and_is (list_all (λ z. not (same x z)) xs) (list_all (λ z. not (same x z)) ys) (sym (list_all-append (λ z. not (same x z)) xs ys) ∙ k.0)).0
      (distinct_front xs ys k.1)

-- ---- places

pub places_push : (count : ℕ) (xs : List ℕ) (i : ℕ) → are_places count (xs ++ i ∷ []) ≡ (are_places count xs && (nat_lt i count && not (list_any (nat_eq i) xs)))
places_push count xs i =
    ap (λ b. b && are_distinct nat_eq (xs ++ i ∷ [])) (list_all-append (λ j. nat_lt j count) xs (i ∷ []))
    ∙ ap (λ b. (list_all (λ j. nat_lt j count) xs && (nat_lt i count && true)) && b) (distinct_push nat_eq same_ways xs i)
    ∙ shuffle (list_all (λ j. nat_lt j count) xs) (nat_lt i count) (are_distinct nat_eq xs) (not (list_any (nat_eq i) xs))
  where
    shuffle : (a b c d : Bool) → ((a && (b && true)) && (c && d)) ≡ ((a && c) && (b && d))
    shuffle true true true d = refl
    shuffle true true false d = refl
    shuffle true false true d = refl
    shuffle true false false d = refl
    shuffle false b c d = refl

pub places_front : (count : ℕ) (xs ys : List ℕ) → are_places count (xs ++ ys) ≡ true → are_places count xs ≡ true
places_front count xs ys h =
    let k = and_is (list_all (λ j. nat_lt j count) (xs ++ ys)) (are_distinct nat_eq (xs ++ ys)) h in
    and_of (list_all (λ j. nat_lt j count) xs) (are_distinct nat_eq xs)
    (and_is (list_all (λ j. nat_lt j count) xs) (list_all (λ j. nat_lt j count) ys) (sym (list_all-append (λ j. nat_lt j count) xs ys) ∙ k.0)).0
    (distinct_front nat_eq same_ways xs ys k.1)

-- ---- marks

-- no marks yet
pub marks_none : (count : ℕ) → AreMarks count [] (replicate count false)
marks_none count = record { size = length-replicate count false; each = λ i. none count i }
  where
    none : (n i : ℕ) → get_or (replicate n false) i false ≡ false
    none zero i = refl
    none (suc n) zero = refl
    none (suc n) (suc i) = none n i

-- one more
pub marks_push : (count : ℕ) (xs : List ℕ) (marks : List Bool) (i : ℕ) → AreMarks count xs marks → i < length marks → AreMarks count (xs ++ i ∷ []) (set marks i true)
marks_push count xs marks i m l = record {
  size = length-set marks i true ∙ m.size;
  each = λ j. elim (cases_eq j i) as (λ _. is_marked (set marks i true) j ≡ list_any (nat_eq j) (xs ++ i ∷ [])) [
    | inl e ↦
        ap (λ k. get_or (set marks i true) k false) e ∙ get_or-set_same marks i true false l
        ∙ sym (list_any-append (nat_eq j) xs (i ∷ []) ∙ ap (λ b. list_any (nat_eq j) xs || (b || false)) (eq-eqb j i e) ∙ any_true (list_any (nat_eq j) xs))
    | inr ne ↦
        get_or-set_other marks i j true false ne ∙ m.each j
        ∙ sym (list_any-append (nat_eq j) xs (i ∷ []) ∙ ap (λ b. list_any (nat_eq j) xs || (b || false)) (ne_eqb j i ne) ∙ any_false (list_any (nat_eq j) xs))
  ];
}
  where
    any_true : (b : Bool) → (b || (true || false)) ≡ true
    any_true true = refl
    any_true false = refl

    any_false : (b : Bool) → (b || (false || false)) ≡ b
    any_false true = refl
    any_false false = refl

-- ---- a loop's step

-- the marks of the first so many of a list, which are places
pub record AreFront (count : ℕ) (indices : List ℕ) (n : ℕ) (marks : List Bool) : Type 0 where
  pub front : AreMarks count (take n indices) marks
  pub places : are_places count (take n indices) ≡ true

-- whether an index may be marked says whether it makes places with those that are
may_mark : (count : ℕ) (indices : List ℕ) (n i : ℕ) (marks : List Bool) → AreFront count indices n marks → n < length indices → i ≡ get_or indices n 0
    → are_places count (take (n + 1) indices) ≡ (nat_lt i (length marks) && not (is_marked marks i))
may_mark count indices n i marks f l is =
    ap (are_places count) (take_more indices n 0 l ∙ ap (λ j. take n indices ++ j ∷ []) (sym is))
    ∙ places_push count (take n indices) i ∙ ap (λ b. b && (nat_lt i count && not (list_any (nat_eq i) (take n indices)))) f.places
    ∙ ap (λ c. nat_lt i c && not (list_any (nat_eq i) (take n indices))) (sym f.front.size)
    ∙ ap (λ b. nat_lt i (length marks) && not b) (sym (f.front.each i))

pub front_none : (count : ℕ) (indices : List ℕ) (marks : List Bool) → marks ≡ replicate count false → AreFront count indices 0 marks
front_none count indices marks e = record { front = subst (AreMarks count []) (sym e) (marks_none count); places = refl }

pub front_more : (count : ℕ) (indices : List ℕ) (n i : ℕ) (old new : List Bool) (done : Bool) → AreFront count indices n old → n < length indices → i ≡ get_or indices n 0
    → done ≡ (nat_lt i (length old) && not (is_marked old i)) → new ≡ cond done (set old i true) old → done ≡ true → AreFront count indices (n + 1) new
front_more count indices n i old new done f l is d e t =
    let k = and_is (nat_lt i (length old)) (not (is_marked old i)) (sym d ∙ t) in
    let to : new ≡ set old i true = e ∙ ap (λ b. cond b (set old i true) old) t in
    record {
      front = subst (λ xs. AreMarks count xs new) (sym (take_more indices n 0 l ∙ ap (λ j. take n indices ++ j ∷ []) (sym is)))
          (subst (AreMarks count (take n indices ++ i ∷ [])) (sym to) (marks_push count (take n indices) old i f.front (ltb-true i (length old) k.0)));
      places = may_mark count indices n i old f l is ∙ sym d ∙ t;
    }

-- an index that may not be marked
pub front_stops : (count : ℕ) (indices : List ℕ) (n i : ℕ) (old : List Bool) (done : Bool) → AreFront count indices n old → n < length indices → i ≡ get_or indices n 0
    → done ≡ (nat_lt i (length old) && not (is_marked old i)) → done ≡ false → false ≡ are_places count indices
front_stops count indices n i old done f l is d t = sym (same_tests (are_places count indices) false
    (λ h.
    let front = places_front count (take (n + 1) indices) (drop (n + 1) indices) (ap (are_places count) (take-append-drop (n + 1) indices) ∙ h) in
    sym (may_mark count indices n i old f l is ∙ sym d ∙ t) ∙ front)
    (λ h. absurd (let k : false ≡ true = h in cc)))

-- all are marked
pub front_all : (count : ℕ) (indices : List ℕ) (n : ℕ) (marks : List Bool) → AreFront count indices n marks → length indices ≤ n → (true ≡ are_places count indices) × AreMarks count indices marks
front_all count indices n marks f l =
    let e : take n indices ≡ indices = take_all n indices l in
    (sym (ap (are_places count) (sym e) ∙ f.places), subst (λ xs. AreMarks count xs marks) e f.front)

pub ruleset steps = (front_none, front_more, front_stops)
