-- Rows added to tables one after another, and tables made of lists of rows.
use Rattle.std.proofs.Common.{◌≡◌, ℕ, true, not, List, [], ◌∷◌, ◌++◌, length, refl, ap, sym, subst, ◌∙◌, map, Vec, nat_eq, nat_lt, append_assoc, append-nil}
use Rattle.std.specs.Prelude.{◌&&◌}
use Rattle.std.specs.List.{list_all, AllByRecursion, IsDistinct}
use Rattle.std.specs.Cmp.{nat_cmp_total}
use Rattle.std.specs.FinMap.{nat_cmp-IsAntisymmetric}
use Rattle.std.specs.declared.alloc.Global.{Global}
use Rattle.std.proofs.lemmas.Bool.{ltb-true, eq-eqb}
use Rattle.std.proofs.lemmas.List.Folds.{list_all-append}
use Rattle.scene_kinds.specs.declared.cells.Row.{Row}
use Rattle.scene_kinds.specs.Cells.{HasKinds}
use Rattle.scene_kinds.proofs.Lists.{list_at_same, with_list-with_list, with_list-list_at}
use Rattle.scene_table.specs.Tables.{Tables, NoneOf, rows_at, with_rows, with_row, with_row_back}
use Rattle.scene_table.proofs.Standing.{added}
use Rattle.scene_table.proofs.ReturnedRows.{back_last}
use Rattle.scene_validate.specs.Parts.{tables_of}
use Rattle.scene_validate.specs.Rules.{flat, are_distinct}
use Rattle.scene_validate.specs.Seen.{lists_seen}
use Rattle.scene_validate.proofs.Tests.{and_is, all_with}
use Rattle.scene_validate.proofs.Listed.{list_at-map_of, listed_nowhere, flat_is}
use Rattle.scene_validate.proofs.RowRules.{each_row}
use Rattle.scene_world.specs.Built.{CanTake, taken, AreStorable}
use Rattle.scene_world.proofs.BuiltLists.{AreLeft, one_left, lists_push}

-- ---- rows one after another

-- what a loop over rows does with the next one
pub take_next : (t u v : Tables) (mask count last : ℕ) (row : Row) (rest all : List Row) → all ≡ row ∷ rest → CanTake t mask count all → u ≡ t → last ≡ length (rows_at u mask) → v ≡ with_row_back u last row
    → CanTake v mask count rest × (taken v rest ≡ taken t all)
take_next t u v mask count last row rest all e can same l put =
    let here : CanTake t mask count (row ∷ rest) = subst (CanTake t mask count) e can in
    let is : v ≡ with_row t row = put ∙ ap (λ (x : Tables). with_row_back x last row) same ∙ back_last t row mask last (sym here.0.kinds.kinds) (l ∙ ap (λ (x : Tables). length (rows_at x mask)) same) in (
      subst (λ (x : Tables). CanTake x mask count rest) (sym is) here.1,
      ap (λ (x : Tables). taken x rest) is ∙ ap (taken t) (sym e),
    )

-- rows of a kind set that are added stand behind those that it has
taken_rows : (t : Tables) (mask : ℕ) (rows : List Row) → AllByRecursion (HasKinds mask) rows → taken t rows ≡ with_rows t mask (rows_at t mask ++ rows)
taken_rows t mask [] h = sym (ap (with_rows t mask) (append-nil (rows_at t mask)) ∙ with_list-list_at nat_cmp_total nat_cmp-IsAntisymmetric t mask)
taken_rows t mask (r ∷ rs) h =
    let put : with_row t r ≡ with_rows t mask (rows_at t mask ++ r ∷ []) = ap (λ m. with_rows t m (rows_at t m ++ r ∷ [])) h.0.kinds in
    let there : rows_at (with_row t r) mask ≡ rows_at t mask ++ r ∷ [] = ap (λ (x : Tables). rows_at x mask) put ∙ list_at_same nat_cmp_total t mask (rows_at t mask ++ r ∷ []) in
    taken_rows (with_row t r) mask rs h.1 ∙ ap (λ (x : Tables). with_rows x mask (rows_at (with_row t r) mask ++ rs)) put
    ∙ with_list-with_list nat_cmp_total nat_cmp-IsAntisymmetric t mask (rows_at t mask ++ r ∷ []) (rows_at (with_row t r) mask ++ rs)
    ∙ ap (with_rows t mask) (ap (λ xs. xs ++ rs) there ∙ append_assoc (rows_at t mask) (r ∷ []) rs)

-- rows of other indices than those that stand may be added
can_take : (t : Tables) (mask count : ℕ) (rows : List Row) → AllByRecursion (HasKinds mask) rows → list_all (λ r. nat_lt r.entity.index count) rows ≡ true
    → are_distinct nat_eq (map (λ (r : Row). r.entity.index) rows) ≡ true → AllByRecursion (λ (r : Row). NoneOf r.entity.index t) rows → CanTake t mask count rows
can_take t mask count [] h low once none = tt
can_take t mask count (r ∷ rs) h low once none =
    let l = and_is (nat_lt r.entity.index count) (list_all (λ r. nat_lt r.entity.index count) rs) low in
    let o = and_is (list_all (λ i. not (nat_eq r.entity.index i)) (map (λ (r : Row). r.entity.index) rs)) (are_distinct nat_eq (map (λ (r : Row). r.entity.index) rs)) once in (
      record { kinds = h.0; low = ltb-true r.entity.index count l.0; unused = none.0 },
      can_take (with_row t r) mask count rs h.1 l.1 o.1 (others rs o.0 none.1),
    )
  where
    others : (ss : List Row) → list_all (λ i. not (nat_eq r.entity.index i)) (map (λ (r : Row). r.entity.index) ss) ≡ true → AllByRecursion (λ (r : Row). NoneOf r.entity.index t) ss → AllByRecursion (λ (s : Row). NoneOf s.entity.index (with_row t r)) ss
    others [] o n = tt
    others (s ∷ ss) o n =
        let k = and_is (not (nat_eq r.entity.index s.entity.index)) (list_all (λ i. not (nat_eq r.entity.index i)) (map (λ (r : Row). r.entity.index) ss)) o in (
          λ h row is e. added ⊥ t r h row is (λ g. n.0 h row g e) (λ _ _ same.
              let i : r.entity.index ≡ s.entity.index = ap (λ (x : Row). x.entity.index) same ∙ e in
              let b : not true ≡ true = ap not (sym (eq-eqb r.entity.index s.entity.index i)) ∙ k.0 in absurd (cc)),
          others ss k.1 n.1,
        )

-- ---- tables

storable_rest : (count : ℕ) (t : ℕ × List Row) (ts : List (ℕ × List Row)) → AreStorable count (t ∷ ts) → AreStorable count ts
unfolding IsDistinct
storable_rest count t ts s = record {
  apart = s.apart.1;
  kinds = s.kinds.1;
  low = (and_is (list_all (λ r. nat_lt r.entity.index count) t.1) (list_all (λ r. nat_lt r.entity.index count) (flat ts)) (sym (list_all-append (λ (r : Row). nat_lt r.entity.index count) t.1 (flat ts)) ∙ s.low)).1;
  once = behind t.1 s.once;
}
  where
    behind : (xs : List Row) → are_distinct nat_eq (map (λ (r : Row). r.entity.index) (xs ++ flat ts)) ≡ true → are_distinct nat_eq (map (λ (r : Row). r.entity.index) (flat ts)) ≡ true
    behind [] h = h
    behind (x ∷ xs) h = behind xs (and_is (list_all (λ i. not (nat_eq x.entity.index i)) (map (λ (r : Row). r.entity.index) (xs ++ flat ts))) (are_distinct nat_eq (map (λ (r : Row). r.entity.index) (xs ++ flat ts))) h).1

storable_back : (count : ℕ) (ts us : List (ℕ × List Row)) → AreStorable count (ts ++ us) → AreStorable count us
storable_back count [] us s = s
storable_back count (t ∷ ts) us s = storable_back count ts us (storable_rest count t (ts ++ us) s)

-- an index of the first rows isn't one of the others
first_apart : (xs ys : List Row) → are_distinct nat_eq (map (λ (r : Row). r.entity.index) (xs ++ ys)) ≡ true → AllByRecursion (λ (x : Row). list_all (λ (y : Row). not (nat_eq x.entity.index y.entity.index)) ys ≡ true) xs
first_apart [] ys h = tt
first_apart (x ∷ xs) ys h =
    let k = and_is (list_all (λ i. not (nat_eq x.entity.index i)) (map (λ (r : Row). r.entity.index) (xs ++ ys))) (are_distinct nat_eq (map (λ (r : Row). r.entity.index) (xs ++ ys))) h in
    (behind xs k.0, first_apart xs ys k.1)
  where
    mapped : (zs : List Row) → list_all (λ i. not (nat_eq x.entity.index i)) (map (λ (r : Row). r.entity.index) zs) ≡ list_all (λ (y : Row). not (nat_eq x.entity.index y.entity.index)) zs
    mapped [] = refl
    mapped (z ∷ zs) = ap (λ b. not (nat_eq x.entity.index z.entity.index) && b) (mapped zs)

    behind : (zs : List Row) → list_all (λ i. not (nat_eq x.entity.index i)) (map (λ (r : Row). r.entity.index) (zs ++ ys)) ≡ true → list_all (λ (y : Row). not (nat_eq x.entity.index y.entity.index)) ys ≡ true
    behind [] h = sym (mapped ys) ∙ h
    behind (z ∷ zs) h = behind zs (and_is (not (nat_eq x.entity.index z.entity.index)) (list_all (λ i. not (nat_eq x.entity.index i)) (map (λ (r : Row). r.entity.index) (zs ++ ys))) h).1

first_distinct : (xs ys : List Row) → are_distinct nat_eq (map (λ (r : Row). r.entity.index) (xs ++ ys)) ≡ true → are_distinct nat_eq (map (λ (r : Row). r.entity.index) xs) ≡ true
first_distinct [] ys h = refl
first_distinct (x ∷ xs) ys h =
    let k = and_is (list_all (λ i. not (nat_eq x.entity.index i)) (map (λ (r : Row). r.entity.index) (xs ++ ys))) (are_distinct nat_eq (map (λ (r : Row). r.entity.index) (xs ++ ys))) h in
    ap (λ b. b && are_distinct nat_eq (map (λ (r : Row). r.entity.index) xs)) (before xs k.0) ∙ first_distinct xs ys k.1
  where
    before : (zs : List Row) → list_all (λ i. not (nat_eq x.entity.index i)) (map (λ (r : Row). r.entity.index) (zs ++ ys)) ≡ true → list_all (λ i. not (nat_eq x.entity.index i)) (map (λ (r : Row). r.entity.index) zs) ≡ true
    before [] h = refl
    before (z ∷ zs) h =
        let k = and_is (not (nat_eq x.entity.index z.entity.index)) (list_all (λ i. not (nat_eq x.entity.index i)) (map (λ (r : Row). r.entity.index) (zs ++ ys))) h in
        ap (λ b. b && list_all (λ i. not (nat_eq x.entity.index i)) (map (λ (r : Row). r.entity.index) zs)) k.0 ∙ before zs k.1

-- rows of a kind set may be added to the tables of the lists behind it
pub next_can : (count : ℕ) (t : ℕ × List Row) (ts : List (ℕ × List Row)) → AreStorable count (t ∷ ts) → CanTake (tables_of ts) t.0 count t.1
next_can count t ts s = can_take (tables_of ts) t.0 count t.1 s.kinds.0
    (and_is (list_all (λ r. nat_lt r.entity.index count) t.1) (list_all (λ r. nat_lt r.entity.index count) (flat ts)) (sym (list_all-append (λ (r : Row). nat_lt r.entity.index count) t.1 (flat ts)) ∙ s.low)).0
    (first_distinct t.1 (flat ts) s.once)
    (all_with (λ (x : Row). list_all (λ (y : Row). not (nat_eq x.entity.index y.entity.index)) (flat ts) ≡ true) (λ (x : Row). NoneOf x.entity.index (tables_of ts)) none t.1 (first_apart t.1 (flat ts) s.once))
  where
    none : (x : Row) → list_all (λ (y : Row). not (nat_eq x.entity.index y.entity.index)) (flat ts) ≡ true → NoneOf x.entity.index (tables_of ts)
    none x h home row is e =
        let k = each_row (λ m (y : Row). not (nat_eq x.entity.index y.entity.index) ≡ true) ts (flat_is (λ (y : Row). not (nat_eq x.entity.index y.entity.index)) ts h) home row is in
        let b : not true ≡ true = ap not (sym (eq-eqb x.entity.index row.entity.index (sym e))) ∙ k in absurd (cc)

-- and are then the tables with it
pub next_is : (count : ℕ) (t : ℕ × List Row) (ts : List (ℕ × List Row)) → AreStorable count (t ∷ ts) → taken (tables_of ts) t.1 ≡ tables_of (t ∷ ts)
unfolding IsDistinct
next_is count t ts s =
    taken_rows (tables_of ts) t.0 t.1 s.kinds.0
    ∙ ap (λ (xs : List Row). with_rows (tables_of ts) t.0 (xs ++ t.1)) (list_at-map_of nat_cmp_total ts t.0 ∙ listed_nowhere nat_cmp_total nat_cmp-IsAntisymmetric ts t.0 s.apart.0)

-- the tables of the lists that are done
pub record AreBuilt (all rest : List (ℕ × List Row)) (t : Tables) : Type 0 where
  pub left : AreLeft all rest
  pub made : t ≡ tables_of left.done

abbrev pub Vecs : Type 0
Vecs = List (ℕ × Vec Row Global)

module _ (count : ℕ) (all : List (ℕ × List Row)) (s : AreStorable count all) (old new : Vecs) (mask : ℕ) (rows : Vec Row Global) (e : old ≡ new ++ (mask, rows) ∷ []) (t : Tables) (b : AreBuilt all (lists_seen old) t) where
  left_now : lists_seen new ++ ((mask, rows.items) ∷ b.left.done) ≡ all
  left_now = one_left all (lists_seen old) (lists_seen new) (mask, rows.items) b.left (ap (λ (xs : Vecs). lists_seen xs) e ∙ lists_push new (mask, rows))

  storable_now : AreStorable count ((mask, rows.items) ∷ b.left.done)
  storable_now = storable_back count (lists_seen new) ((mask, rows.items) ∷ b.left.done) (subst (AreStorable count) (sym left_now) s)

  pub built_can : CanTake t mask count rows.items
  built_can = subst (λ (x : Tables). CanTake x mask count rows.items) (sym b.made) (next_can count (mask, rows.items) b.left.done storable_now)

  pub built_more : (u : Tables) → u ≡ taken t rows.items → AreBuilt all (lists_seen new) u
  built_more u h = record {
    left = record { done = (mask, rows.items) ∷ b.left.done; split = left_now };
    made = h ∙ ap (λ (x : Tables). taken x rows.items) b.made ∙ next_is count (mask, rows.items) b.left.done storable_now;
  }

pub none_built : (all : List (ℕ × List Row)) (t : Tables) → t ≡ tables_of [] → AreBuilt all all t
none_built all t e = record { left = record { done = []; split = append-nil all }; made = e }

pub all_built : (all : List (ℕ × List Row)) (old : Vecs) (t : Tables) → AreBuilt all (lists_seen old) t → old ≡ [] → t ≡ tables_of all
all_built all old t b e = b.made ∙ ap tables_of (ap (λ (xs : Vecs). lists_seen xs ++ b.left.done) (sym e) ∙ b.left.split)
