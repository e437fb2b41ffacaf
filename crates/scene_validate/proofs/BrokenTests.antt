-- What the code asks of marks, as the rules ask it of rows.
use Rattle.std.proofs.Common.{◌≡◌, ℕ, zero, suc, ◌+◌, ◌<◌, Bool, true, false, not, List, [], ◌∷◌, length, refl, ap, sym, subst, ◌∙◌, arith, map, nat_eq, nat_lt, Some, None}
use Rattle.std.specs.Prelude.{◌&&◌, ◌||◌, slice_get, slice_index}
use Rattle.std.specs.List.{list_all, list_any, range_with_len}
use Rattle.std.proofs.lemmas.Bool.{eqb-true, eq-eqb, lt-ltb}
use Rattle.scene_kinds.specs.declared.entity.Entity.{Entity}
use Rattle.scene_kinds.specs.declared.cells.Row.{Row}
use Rattle.scene_kinds.specs.Entity.{is_same}
use Rattle.scene_alloc.specs.Slots.{highest, is_free}
use Rattle.scene_links.proofs.Held.{same_is, same_self}
use Rattle.scene_model.specs.Valid.{is_retired}
use Rattle.scene_validate.specs.Parts.{Parts, slots_in}
use Rattle.scene_validate.specs.Rules.{are_distinct, is_current, has_row, rows_in, rows_are_current, entities_stand_once, free_is_sound, is_accounted, indices_are_accounted}
use Rattle.scene_validate.specs.Marks.{is_marked, AreMarks, are_places, is_living}
use Rattle.scene_validate.proofs.Tests.{and_is, and_of, same_tests, all_is, at_place, any_is, any_of}
use Rattle.scene_validate.proofs.RowRules.{generation_is, generation_of}

-- an index is live, free or retired, as marks and generations tell it
abbrev pub accounted_by : List ℕ → List Bool → List Bool → ℕ → Bool
accounted_by g live free i = is_marked live i || is_marked free i || nat_eq (slice_index g i) highest

module _ {X : Type 0} where
  -- tests that agree at each element
  pub all_same : (f g : X → Bool) → ((x : X) → f x ≡ g x) → (xs : List X) → list_all f xs ≡ list_all g xs
  all_same f g h [] = refl
  all_same f g h (x ∷ xs) = ap (λ b. b && list_all f xs) (h x) ∙ ap (λ b. g x && b) (all_same f g h xs)

  -- none passes, where each fails
  pub none_any : (f : X → Bool) (xs : List X) → not (list_any f xs) ≡ list_all (λ x. not (f x)) xs
  none_any f [] = refl
  none_any f (x ∷ xs) = split (f x) (list_any f xs) ∙ ap (λ b. not (f x) && b) (none_any f xs)
    where
      split : (a b : Bool) → not (a || b) ≡ (not a && not b)
      split true b = refl
      split false b = refl

  -- a test of what elements are told by
  pub all_mapped : {Y : Type 0} (t : Y → Bool) (f : X → Y) (xs : List X) → list_all t (map f xs) ≡ list_all (λ x. t (f x)) xs
  all_mapped t f [] = refl
  all_mapped t f (x ∷ xs) = ap (λ b. t (f x) && b) (all_mapped t f xs)

  pub any_mapped : {Y : Type 0} (t : Y → Bool) (f : X → Y) (xs : List X) → list_any t (map f xs) ≡ list_any (λ x. t (f x)) xs
  any_mapped t f [] = refl
  any_mapped t f (x ∷ xs) = ap (λ b. t (f x) || b) (any_mapped t f xs)

  pub map_map : {Y Z : Type 0} (g : Y → Z) (f : X → Y) (xs : List X) → map g (map f xs) ≡ map (λ x. g (f x)) xs
  map_map g f [] = refl
  map_map g f (x ∷ xs) = ap (λ ys. g (f x) ∷ ys) (map_map g f xs)

-- ---- entities that have their slots' generations

-- two of one index are one
pub one_current : (g : List ℕ) (a b : Entity) → is_current g a ≡ true → is_current g b ≡ true → a.index ≡ b.index → a ≡ b
one_current g a b h k e =
    let x : slice_get g a.index ≡ Some a.generation = generation_is (slice_get g a.index) a.generation h in
    let y : slice_get g b.index ≡ Some b.generation = generation_is (slice_get g b.index) b.generation k in
    let s : Some a.generation ≡ Some b.generation = sym x ∙ ap (slice_get g) e ∙ y in
    let f : a.generation ≡ b.generation = cc in
    λ i. record { index = e i; generation = f i }

current_below : (g : List ℕ) (e : Entity) → is_current g e ≡ true → nat_lt e.index (length g) ≡ true
current_below g e h = lt-ltb e.index (length g) (within g e.index e.generation (generation_is (slice_get g e.index) e.generation h))
  where
    within : (xs : List ℕ) (i x : ℕ) → slice_get xs i ≡ Some x → i < length xs
    within [] i x k = absurd (let f : None ≡ Some x = k in cc)
    within (y ∷ ys) zero x k = omega arith
    within (y ∷ ys) (suc i) x k = let l : i < length ys = within ys i x k in omega arith

same_index : (g : List ℕ) (a b : Entity) → is_current g a ≡ true → is_current g b ≡ true → nat_eq a.index b.index ≡ is_same a b
same_index g a b h k = same_tests (nat_eq a.index b.index) (is_same a b)
    (λ t. ap (is_same a) (sym (one_current g a b h k (eqb-true a.index b.index t))) ∙ same_self a)
    (λ t. eq-eqb a.index b.index (ap (λ (e : Entity). e.index) (same_is a b t)))

-- their indices are below the number of slots, and are distinct where they are
pub current_places : (g : List ℕ) (es : List Entity) → list_all (is_current g) es ≡ true → are_places (length g) (map (λ (e : Entity). e.index) es) ≡ are_distinct is_same es
current_places g es h =
    ap (λ b. b && are_distinct nat_eq (map (λ (e : Entity). e.index) es)) (below es h) ∙ differ es h
  where
    below : (xs : List Entity) → list_all (is_current g) xs ≡ true → list_all (λ i. nat_lt i (length g)) (map (λ (e : Entity). e.index) xs) ≡ true
    below [] h = refl
    below (x ∷ xs) h = let k = and_is (is_current g x) (list_all (is_current g) xs) h in and_of (nat_lt x.index (length g)) (list_all (λ i. nat_lt i (length g)) (map (λ (e : Entity). e.index) xs)) (current_below g x k.0) (below xs k.1)

    apart : (x : Entity) → is_current g x ≡ true → (xs : List Entity) → list_all (is_current g) xs ≡ true
        → list_all (λ j. not (nat_eq x.index j)) (map (λ (e : Entity). e.index) xs) ≡ list_all (λ y. not (is_same x y)) xs
    apart x c [] h = refl
    apart x c (y ∷ ys) h =
        let k = and_is (is_current g y) (list_all (is_current g) ys) h in
        ap (λ b. not b && list_all (λ j. not (nat_eq x.index j)) (map (λ (e : Entity). e.index) ys)) (same_index g x y c k.0) ∙ ap (λ b. not (is_same x y) && b) (apart x c ys k.1)

    differ : (xs : List Entity) → list_all (is_current g) xs ≡ true → are_distinct nat_eq (map (λ (e : Entity). e.index) xs) ≡ are_distinct is_same xs
    differ [] h = refl
    differ (x ∷ xs) h =
        let k = and_is (is_current g x) (list_all (is_current g) xs) h in
        ap (λ b. b && are_distinct nat_eq (map (λ (e : Entity). e.index) xs)) (apart x k.0 xs k.1) ∙ ap (λ b. list_all (λ y. not (is_same x y)) xs && b) (differ xs k.1)

-- ---- rules 4 to 6

-- the indices of the rows' entities
abbrev pub row_indices : Parts → List ℕ
row_indices p = map (λ (r : Row). r.entity.index) (rows_in p)

entities_in : Parts → List Entity
entities_in p = map (λ (r : Row). r.entity) (rows_in p)

pub places_once : (p : Parts) → rows_are_current p ≡ true → are_places (length p.generations) (row_indices p) ≡ entities_stand_once p
places_once p h =
    ap (are_places (length p.generations)) (sym (map_map (λ (e : Entity). e.index) (λ (r : Row). r.entity) (rows_in p)))
    ∙ current_places p.generations (map (λ (r : Row). r.entity) (rows_in p)) (all_mapped (is_current p.generations) (λ (r : Row). r.entity) (rows_in p) ∙ h)

-- whether an entity has a row
pub living_is : (p : Parts) (live : List Bool) → rows_are_current p ≡ true → AreMarks (length p.generations) (row_indices p) live → (e : Entity) → is_living p.generations live e ≡ has_row (rows_in p) e
living_is p live h m e = same_tests (is_living p.generations live e) (has_row (rows_in p) e)
    (λ t.
    let k = and_is (is_current p.generations e) (is_marked live e.index) t in
    let r = any_is (λ (r : Row). nat_eq e.index r.entity.index) (rows_in p) (sym (any_mapped (nat_eq e.index) (λ (r : Row). r.entity.index) (rows_in p)) ∙ sym (m.each e.index) ∙ k.1) in
    let current : is_current p.generations r.1.0.entity ≡ true = at_place (λ (r : Row). is_current p.generations r.entity ≡ true) (rows_in p) r.0 r.1.0 (all_is (λ (r : Row). is_current p.generations r.entity) (rows_in p) h) r.1.1.0 in
    let s : e ≡ r.1.0.entity = one_current p.generations e r.1.0.entity k.0 current (eqb-true e.index r.1.0.entity.index r.1.1.1) in
    any_of (λ (r : Row). is_same e r.entity) (rows_in p) r.0 r.1.0 r.1.1.0 (ap (is_same e) (sym s) ∙ same_self e))
    (λ t.
    let r = any_is (λ (r : Row). is_same e r.entity) (rows_in p) t in
    let current : is_current p.generations r.1.0.entity ≡ true = at_place (λ (r : Row). is_current p.generations r.entity ≡ true) (rows_in p) r.0 r.1.0 (all_is (λ (r : Row). is_current p.generations r.entity) (rows_in p) h) r.1.1.0 in
    let s : e ≡ r.1.0.entity = same_is e r.1.0.entity r.1.1.1 in
    and_of (is_current p.generations e) (is_marked live e.index) (ap (is_current p.generations) s ∙ current)
    (m.each e.index ∙ any_mapped (nat_eq e.index) (λ (r : Row). r.entity.index) (rows_in p)
    ∙ any_of (λ (r : Row). nat_eq e.index r.entity.index) (rows_in p) r.0 r.1.0 r.1.1.0 (eq-eqb e.index r.1.0.entity.index (ap (λ (e : Entity). e.index) s))))

-- the free indices, of which none is a row's
pub free_tested : (p : Parts) (free : List Bool) → AreMarks (length p.generations) p.free free → are_places (length p.generations) p.free ≡ true
    → not (list_any (is_marked free) (row_indices p)) ≡ free_is_sound p
free_tested p free m places =
    ap not (any_mapped (is_marked free) (λ (r : Row). r.entity.index) (rows_in p)) ∙ none_any (λ (r : Row). is_marked free r.entity.index) (rows_in p)
    ∙ all_same (λ (r : Row). not (is_marked free r.entity.index)) (λ (r : Row). not (is_free (slots_in p) r.entity.index)) (λ r. ap not (m.each r.entity.index)) (rows_in p)
    ∙ ap (λ b. b && list_all (λ (r : Row). not (is_free (slots_in p) r.entity.index)) (rows_in p)) (sym places)

pub free_fails : (p : Parts) → are_places (length p.generations) p.free ≡ false → false ≡ free_is_sound p
free_fails p h = ap (λ b. b && list_all (λ (r : Row). not (is_free (slots_in p) r.entity.index)) (rows_in p)) (sym h)

-- each index
pub accounts : (p : Parts) (live free : List Bool) → rows_are_current p ≡ true → AreMarks (length p.generations) (row_indices p) live → AreMarks (length p.generations) p.free free
    → list_all (accounted_by p.generations live free) (range_with_len 0 (length p.generations)) ≡ indices_are_accounted p
accounts p live free h m f = below (length p.generations) 0 (λ i l. let e : i ≡ 0 + i = omega arith in subst (λ j. accounted_by p.generations live free j ≡ is_accounted p j) e (one i l))
  where
    now_at : ℕ → Entity
    now_at i = record { index = i; generation = slice_index p.generations i }

    known : (xs : List ℕ) (i : ℕ) → i < length xs → slice_get xs i ≡ Some (slice_index xs i)
    known [] i l = absurd (omega arith)
    known (x ∷ xs) zero l = refl
    known (x ∷ xs) (suc i) l = known xs i (omega arith)

    one : (i : ℕ) → i < length p.generations → accounted_by p.generations live free i ≡ is_accounted p i
    one i l =
        let c : is_current p.generations (record { index = i; generation = slice_index p.generations i }) ≡ true = generation_of (slice_get p.generations i) (slice_index p.generations i) (known p.generations i l) in
        ap (λ b. b || is_marked free i || is_retired (slots_in p) i)
        (ap (λ b. b && is_marked live i) (sym c) ∙ living_is p live h m (record { index = i; generation = slice_index p.generations i }))
        ∙ ap (λ b. has_row (rows_in p) (record { index = i; generation = slice_index p.generations i }) || b || is_retired (slots_in p) i) (f.each i)

    below : (n a : ℕ) → ((i : ℕ) → i < n → accounted_by p.generations live free (a + i) ≡ is_accounted p (a + i)) → list_all (accounted_by p.generations live free) (range_with_len a n) ≡ list_all (is_accounted p) (range_with_len a n)
    below zero a h = refl
    below (suc n) a h =
        ap (λ b. b && list_all (accounted_by p.generations live free) (range_with_len (a + 1) n)) (let e : a + 0 ≡ a = omega arith in subst (λ j. accounted_by p.generations live free j ≡ is_accounted p j) e (h 0 (omega arith)))
        ∙ ap (λ b. is_accounted p a && b) (below n (a + 1) (λ i l. let e : a + suc i ≡ (a + 1) + i = omega arith in subst (λ j. accounted_by p.generations live free j ≡ is_accounted p j) e (h (suc i) (omega arith))))
