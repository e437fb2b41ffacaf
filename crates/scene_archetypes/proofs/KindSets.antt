-- The tables that have rows, sorted: their kind sets are the keys of the map that is seen, and their rows are those
-- that it shows there.
use Rattle.std.proofs.Common.{◌≡◌, ℕ, ◌+◌, ◌<◌, Bool, true, false, cond, ◌||◌, ◌&&◌, T, nat_eq, List, [], ◌∷◌, ◌++◌, append-nil, length, get_or, take, Some, None, refl, ap, subst, sym, ◌∙◌, arith}
use Rattle.std.specs.Prelude.{map as each, is_some, IsTrue}
use Rattle.std.specs.List.{list_any, filter, IsDistinct, AllByRecursion}
use Rattle.std.specs.List.Sorted.{IsPermutation, IsNonDecreasing, IsNonDecreasingBy, IsStrictlySortedBy}
use Rattle.std.specs.Ordering.{nat_cmp, eq_by_cmp, is_lt}
use Rattle.std.specs.Cmp.{nat_cmp_total}
use Rattle.std.specs.declared.cmp.Ordering.TheVariants.{Less}
use Rattle.std.specs.FinMap.{nat_cmp-IsAntisymmetric}
use Rattle.std.specs.FinMap.Entries.{find, below_all, is_sorted, is_some-find, same_entries}
use Rattle.std.proofs.lemmas.Bool.{ne_eqb}
use Rattle.std.proofs.lemmas.Cmp.{nat_eq_equiv}
use Rattle.std.proofs.lemmas.List.{take_more, get_or-map, length-map}
use Rattle.std.proofs.lemmas.List.Elements.{filter-append, All-filter, All-from_recursion, recursion_from_All}
use Rattle.std.proofs.lemmas.List.Sorted.{IsPermutation-map, All-permutation, list_any-IsPermutation}
use Rattle.std.proofs.lemmas.Map.Keys.{sorted_head, sorted_tail, IsDistinct-cons, IsDistinct-IsPermutation, IsStrictlyIncreasing-from_distinct, sorted_from_strictly_increasing}
use Rattle.scene_kinds.specs.declared.cells.Row.{Row}
use Rattle.scene_kinds.specs.Map as map
use Rattle.scene_kinds.proofs.Lists.{kept, kept-listed, get-with_list, list_at_same, list_at_apart}
use Rattle.scene_kinds.proofs.Maps.{equal_keys}
use Rattle.scene_table.specs.Table.{TableState}
use Rattle.scene_table.specs.Tables.{Tables, rows_at, with_rows, masks_of}
use Rattle.scene_archetypes.specs.KindTables.{tables_of, NoneHas, AreApart}
use Rattle.scene_archetypes.proofs.Stored.{none_seen}

-- ---- numbers that rise are known by what is among them

-- numbers as entries, each with nothing beside it
units : List ℕ → List (ℕ × Unit {0})
units ks = each {B = ℕ × Unit {0}} (λ k. (k, tt)) ks

-- their keys are the numbers
keys_of_units : (ks : List ℕ) → each (λ e. e.0) (units ks) ≡ ks
unfolding units
keys_of_units [] = refl
keys_of_units (k ∷ ks) = ap (λ r. k ∷ r) (keys_of_units ks)

-- a number is found where it is among them
found_unit : (q : ℕ) (ks : List ℕ) → find nat_cmp q (units ks) ≡ cond (list_any (eq_by_cmp nat_cmp q) ks) (Some tt) None
unfolding units
found_unit q [] = refl
found_unit q (k ∷ ks) = elim (eq_by_cmp nat_cmp q k) as (λ b. cond b (Some tt) (find nat_cmp q (units ks)) ≡ cond (b || list_any (eq_by_cmp nat_cmp q) ks) (Some tt) None) [
  | true ↦ refl
  | false ↦ found_unit q ks
]

-- two tests that hold
both : (a b : Bool) → T a → T b → T (a && b)
both true b p q = q
both false b p q = p

-- a number below all of them is below all keys
below_units : (x : ℕ) (ks : List ℕ) → AllByRecursion (λ y. nat_cmp x y ≡ Less) ks → T (below_all nat_cmp x (units ks))
unfolding units
below_units x [] h = tt
below_units x (k ∷ ks) h = both _ _ (subst (λ r. T (is_lt r)) (sym h.0) tt) (below_units x ks h.1)

-- entries of numbers that rise are in order
rising_units : (ks : List ℕ) → IsStrictlySortedBy nat_cmp ks → T (is_sorted nat_cmp (units ks))
unfolding units
rising_units [] h = tt
rising_units (k ∷ ks) h = both _ _ (below_units k ks (sorted_head nat_cmp k ks h)) (rising_units ks (sorted_tail nat_cmp k ks h))

-- only keys are compared
below_keys : {X : Type 0} (x : ℕ) (es : List (ℕ × X)) → below_all nat_cmp x (units (each (λ e. e.0) es)) ≡ below_all nat_cmp x es
unfolding units
below_keys x [] = refl
below_keys x (e ∷ es) = ap (λ b. is_lt (nat_cmp x e.0) && b) (below_keys x es)

-- entries are in order where their keys are
rising_keys : {X : Type 0} (es : List (ℕ × X)) → is_sorted nat_cmp (units (each (λ e. e.0) es)) ≡ is_sorted nat_cmp es
unfolding units
rising_keys [] = refl
rising_keys (e ∷ es) = λ i. below_keys e.0 es i && rising_keys es i

-- numbers that rise are the keys of entries that rise, where the same are among them
keys_alike : {X : Type 0} (ks : List ℕ) (es : List (ℕ × X)) → IsStrictlySortedBy nat_cmp ks → T (is_sorted nat_cmp es) → ((q : ℕ) → list_any (eq_by_cmp nat_cmp q) ks ≡ is_some (find nat_cmp q es)) → ks ≡ each (λ e. e.0) es
keys_alike ks es h g is =
    let alike = same_entries nat_cmp nat_cmp_total nat_cmp-IsAntisymmetric (units ks) (units (each (λ e. e.0) es)) (rising_units ks h) (subst T (sym (rising_keys es)) g)
    (λ q. found_unit q ks ∙ (ap (λ b. cond b (Some tt) None) (is q ∙ is_some-find nat_cmp q es) ∙ sym (found_unit q (each (λ e. e.0) es)))) in
    sym (keys_of_units ks) ∙ (ap (λ us. each (λ e. e.0) us) alike ∙ keys_of_units (each (λ e. e.0) es))

-- ---- the tables that have rows, and their kind sets

-- whether there are rows
abbrev pub has_some : List Row → Bool
has_some [] = false
has_some (row ∷ rows) = true

-- the tables that have rows, in the order of the tables
abbrev pub with_some : List TableState → List TableState
with_some ts = filter (λ t. has_some t.rows) ts

-- their kind sets
abbrev pub masks_seen : List TableState → List ℕ
masks_seen ts = each (λ t. t.mask) (with_some ts)

some_rows : (rows : List Row) → (rows ≡ [] → ⊥) → has_some rows ≡ true
some_rows [] ne = absurd (ne refl)
some_rows (row ∷ rows) ne = refl

-- the tables up to one, and that one where it has rows
one_more : (ts : List TableState) (i : ℕ) (t : TableState) (b : Bool) → i < length ts → t ≡ get_or ts i t → has_some t.rows ≡ b → with_some (take (i + 1) ts) ≡ with_some (take i ts) ++ cond b (t ∷ []) []
one_more ts i t b l e has = ap with_some (take_more ts i t l ∙ ap (λ x. take i ts ++ x ∷ []) (sym e)) ∙ (filter-append (λ (x : TableState). has_some x.rows) (take i ts) (t ∷ []) ∙ ap (λ c. with_some (take i ts) ++ cond c (t ∷ []) []) has)

-- one more table that has rows is added
pub more_seen : (ts : List TableState) (i : ℕ) (t : TableState) (b : Bool) → i < length ts → t ≡ get_or ts i t → (t.rows ≡ [] → IsTrue b) → b ≡ false → with_some (take (i + 1) ts) ≡ with_some (take i ts) ++ t ∷ []
more_seen ts i t b l e says is = one_more ts i t true l e (some_rows t.rows (λ none. absurd (let wrong : false ≡ true = sym is ∙ says none in cc)))

-- one more table without rows adds nothing
pub more_empty : (ts : List TableState) (i : ℕ) (t : TableState) (b : Bool) → i < length ts → t ≡ get_or ts i t → (IsTrue b → t.rows ≡ []) → b ≡ true → with_some (take (i + 1) ts) ≡ with_some (take i ts)
more_empty ts i t b l e says is = one_more ts i t false l e (ap has_some (says is)) ∙ append-nil (with_some (take i ts))

-- a kind set that no table has isn't among them
none_among : (mask : ℕ) (ts : List TableState) → NoneHas mask ts → AllByRecursion (λ y. nat_eq mask y ≡ false) (masks_seen ts)
none_among mask [] h = tt
none_among mask (t ∷ ts) h = elim t.rows as (λ rows. AllByRecursion (λ y. nat_eq mask y ≡ false) (masks_seen (record t { rows = rows } ∷ ts))) [
  | [] ↦ none_among mask ts h.1
  | row ∷ rows ↦ (ne_eqb mask t.mask h.0, none_among mask ts h.1)
]

-- tables with distinct kind sets give distinct numbers
masks_distinct : (ts : List TableState) → AreApart ts → IsDistinct nat_eq (masks_seen ts)
unfolding IsDistinct
masks_distinct [] h = tt
masks_distinct (t ∷ ts) h = elim t.rows as (λ rows. IsDistinct nat_eq (masks_seen (record t { rows = rows } ∷ ts))) [
  | [] ↦ masks_distinct ts h.1
  | row ∷ rows ↦ IsDistinct-cons nat_eq t.mask (masks_seen ts) (none_among t.mask ts h.0) (masks_distinct ts h.1)
]

-- a table's rows put in answer as the kind sets do
with_table : (q : ℕ) (t : TableState) (ts : List TableState) (rows : List Row) → NoneHas t.mask ts → list_any (eq_by_cmp nat_cmp q) (masks_seen ts) ≡ is_some (map.get (tables_of ts) q) → list_any (eq_by_cmp nat_cmp q) (masks_seen (record t { rows = rows } ∷ ts)) ≡ is_some (cond (eq_by_cmp nat_cmp q t.mask) (kept rows) (map.get (tables_of ts) q))
with_table q t ts [] none is = is ∙ elim (eq_by_cmp nat_cmp q t.mask) as (λ b. eq_by_cmp nat_cmp q t.mask ≡ b → is_some (map.get (tables_of ts) q) ≡ is_some (cond b None (map.get (tables_of ts) q))) [
  | true ↦ λ p.
      let same = equal_keys nat_cmp-IsAntisymmetric q t.mask p in
      ap is_some (sym (kept-listed (map.get (tables_of ts) q)) ∙ ap kept (ap (rows_at (tables_of ts)) same ∙ none_seen t.mask ts none))
  | false ↦ λ p. refl
] refl
with_table q t ts (row ∷ rows) none is = elim (eq_by_cmp nat_cmp q t.mask) as (λ b. (b || list_any (eq_by_cmp nat_cmp q) (masks_seen ts)) ≡ is_some (cond b (Some (row, rows)) (map.get (tables_of ts) q))) [
  | true ↦ refl
  | false ↦ is
]

-- a kind set is among them where the map has it
among_seen : (q : ℕ) (ts : List TableState) → AreApart ts → list_any (eq_by_cmp nat_cmp q) (masks_seen ts) ≡ is_some (map.get (tables_of ts) q)
among_seen q [] h = refl
among_seen q (t ∷ ts) h = with_table q t ts t.rows h.0 (among_seen q ts h.1) ∙ ap is_some (sym (get-with_list nat_cmp_total (tables_of ts) t.mask t.rows q))

-- ---- those tables sorted

-- what is in order by a number has its numbers in order
pub numbers_in_order : {X : Type 0} (n : X → ℕ) (xs : List X) → IsNonDecreasingBy n xs → IsNonDecreasing (each n xs)
numbers_in_order n [] h i j d l under = let wrong : j < 0 = under in absurd (omega arith)
numbers_in_order n (x ∷ xs) h i j d l under =
    let count = length-map (x ∷ xs) n in
    let below : j < length (x ∷ xs) = omega (arith, under, count) in
    let at_i = get_or-map n (x ∷ xs) i x d (omega (arith, l, below)) in
    let at_j = get_or-map n (x ∷ xs) j x d below in
    let up = h i j x l below in omega (arith, up, at_i, at_j)

-- sorted, their kind sets are the keys of the map
pub sorted_masks : (ts ys : List TableState) → AreApart ts → IsPermutation (with_some ts) ys → IsNonDecreasing (each (λ t. t.mask) ys) → each (λ t. t.mask) ys ≡ masks_of (tables_of ts)
sorted_masks ts ys h after_move sorted =
    let moved_masks = IsPermutation-map (λ (t : TableState). t.mask) (with_some ts) ys after_move in
    let distinct = IsDistinct-IsPermutation nat_eq nat_eq_equiv.symm (masks_seen ts) (each (λ t. t.mask) ys) moved_masks (masks_distinct ts h) in
    let rising = sorted_from_strictly_increasing (each (λ t. t.mask) ys) (IsStrictlyIncreasing-from_distinct (each (λ t. t.mask) ys) sorted distinct) in
    keys_alike (each (λ t. t.mask) ys) (tables_of ts).entries rising (tables_of ts).sorted
    (λ q. sym (list_any-IsPermutation (eq_by_cmp nat_cmp q) (masks_seen ts) (each (λ t. t.mask) ys) moved_masks) ∙ among_seen q ts h)

-- ---- their rows

-- a map shows the rows of a table
abbrev pub Shows : Tables → TableState → Type 0
Shows m t = rows_at m t.mask ≡ t.rows

-- one more table leaves the rows of the others
others_shown : (t : TableState) (m : Tables) (ts : List TableState) → NoneHas t.mask ts → AllByRecursion (Shows m) ts → AllByRecursion (Shows (with_rows m t.mask t.rows)) ts
others_shown t m [] none h = tt
others_shown t m (x ∷ ts) none h =
    (list_at_apart nat_cmp_total nat_cmp-IsAntisymmetric m t.mask x.mask t.rows (λ e. none.0 (sym e)) ∙ h.0, others_shown t m ts none.1 h.1)

-- the rows of each table are seen
all_shown : (ts : List TableState) → AreApart ts → AllByRecursion (Shows (tables_of ts)) ts
all_shown [] h = tt
all_shown (t ∷ ts) h = (list_at_same nat_cmp_total (tables_of ts) t.mask t.rows, others_shown t (tables_of ts) ts h.0 (all_shown ts h.1))

-- rows that are seen are those at the kind sets
rows_by_masks : (m : Tables) (ys : List TableState) → AllByRecursion (Shows m) ys → each (λ t. t.rows) ys ≡ each (rows_at m) (each (λ t. t.mask) ys)
rows_by_masks m [] h = refl
rows_by_masks m (y ∷ ys) h = λ i. sym h.0 i ∷ rows_by_masks m ys h.1 i

-- sorted or not, the rows of tables that have some are those at their kind sets
pub rows_seen : (ts ys : List TableState) → AreApart ts → IsPermutation (with_some ts) ys → each (λ t. t.rows) ys ≡ each (rows_at (tables_of ts)) (each (λ t. t.mask) ys)
rows_seen ts ys h after_move =
    let shown = All-from_recursion (Shows (tables_of ts)) ts (all_shown ts h) in
    rows_by_masks (tables_of ts) ys (recursion_from_All (Shows (tables_of ts)) ys
    (All-permutation (Shows (tables_of ts)) (with_some ts) ys after_move (All-filter (λ (t : TableState). has_some t.rows) (Shows (tables_of ts)) ts shown)))
