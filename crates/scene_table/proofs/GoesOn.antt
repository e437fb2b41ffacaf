-- What a run has after one more turn is what its steps make of the rows.
use Rattle.std.proofs.Common.{◌≡◌, ◌<◌, ◌+◌, ℕ, zero, suc, ℤ, pos, negsuc, ◌+ℤ◌, ◌*ℤ◌, List, [], ◌∷◌, length, map, refl, ap, sym, subst, ◌∙◌, arith, true, false, Bool, ◌&&◌, T, cond, Option, Some, None, nat_eq, get_or}
use Rattle.std.specs.Prelude.{All, slice_get, ◌||◌, Ok}
use Rattle.std.specs.List.{list_all, filter}
use Rattle.std.specs.Option.{option_map, option_and_then}
use Rattle.std.specs.Ordering.{nat_cmp, eq_by_cmp}
use Rattle.std.specs.Cmp.{nat_cmp_total}
use Rattle.std.specs.declared.cmp.Ordering.TheVariants.{Less, Equal}
use Rattle.std.specs.FinMap.Entries.{put, find, below_all, is_sorted, is_sorted-put, is_sorted-where_key, find-put, find-where_key, same_entries}
use Rattle.std.proofs.Math.IntN.{*ℤ_comm, suc_ℤ, suc_ℤ-*ℤ}
use Rattle.std.proofs.lemmas.Bool.{eqb-true}
use Rattle.std.proofs.lemmas.Bool.Decides.{nat_tests}
use Rattle.std.proofs.lemmas.Cmp.{ranked}
use Rattle.std.proofs.lemmas.Int.{ints}
use Rattle.std.proofs.lemmas.Option.{get_or_from_slice_get, slice_get-get_or, slice_get-map, slice_get_within}
use Rattle.scene_kinds.specs.Cells.{IsAscending, cell_of}
use Rattle.scene_kinds.specs.Ranges.{is_i64, is_in_range}
use Rattle.scene_kinds.specs.declared.cell.Cell.{Cell}
use Rattle.scene_kinds.specs.declared.cells.Row.{Row}
use Rattle.scene_kinds.specs.declared.entity.Entity.{Entity}
use Rattle.scene_kinds.specs.declared.value.Value.{Value}
use Rattle.scene_kinds.specs.declared.value.Value.TheVariants.{Int, Vec3}
use Rattle.scene_kinds.proofs.Choices.{test_parts, less}
use Rattle.scene_table.specs.declared.row_step.RowStep.{RowStep}
use Rattle.scene_table.specs.declared.row_step.RowStep.TheVariants.{AddVec, AddInt}
use Rattle.scene_table.specs.declared.run.RunColumn.{RunColumn}
use Rattle.scene_table.specs.declared.series.Series.{Series}
use Rattle.scene_table.specs.declared.series.Series.TheVariants.{Ints, Vecs}
use Rattle.scene_table.specs.RowStep.{is_written, target}
use Rattle.scene_table.specs.Steps.{Values, values_of, value_sum, sum, sums, addend, added, step_on, unless_overflow, after_steps}
use Rattle.scene_table.specs.Columns.{kinds_in, rises, rows_of, stamped, ticks, zip_with}
use Rattle.scene_table.specs.Runs.{AddsAs, AreApart, AreColumnsFor, AreInRange, AreLongFor, Changed, GoesOn, HasTicks, HaveAddends, HoldsAt, RunState, Stands, StandsColumn, added_kind, changed_of, columns_after, grown, ints_after, number_after, rows_after, rows_with_rows, vecs_after, vector_after, with_cells, written_cells, written_of, written_values, Same}
use Rattle.scene_table.proofs.ApartSteps.{same_test, other_test}
use Rattle.scene_table.proofs.CellsOfTurn.{cell_of_run, kinds_run, same_tick}
use Rattle.scene_table.proofs.KindLists.{rises_is, same_key}
use Rattle.scene_table.proofs.Overflows.{find_in, value_found}
use Rattle.scene_table.proofs.RunFacts.{length-mapped, ticks_long}
use Rattle.scene_table.proofs.StepsInOrder.{Spares, other_kind, same_addend, spares_each, target_found}
use Rattle.scene_table.proofs.TableFacts.{cells_kinds}
use Rattle.scene_table.proofs.TableRows.{length-rows_of, row_parts}
use Rattle.scene_table.proofs.TurnCells.{columns_long, length-grown}
use Rattle.scene_table.proofs.Walks.{and_left, and_right}
use Rattle.scene_table.proofs.RowsWithCells.{ascending-with_cells, ascending-with_values, cell_of-with_cells, cell_of-with_values, cell_or, with_cells-entity, with_values-entity}
use Rattle.scene_table.proofs.Zips.{zip-get, zip-length}
use Rattle.scene_table.specs.CellWrites.{with_values}
use Rattle.std.specs.Option.{option_or}
use Rattle.std.proofs.lemmas.List.{length-replicate}

-- ---- lists, place by place

pub same_each : {X : Type 0} (xs ys : List X) → length xs ≡ length ys → ((i : ℕ) (x y : X) → slice_get xs i ≡ Some x → slice_get ys i ≡ Some y → x ≡ y) → xs ≡ ys
same_each [] [] e h = refl
same_each [] (y ∷ ys) e h = absurd (omega arith)
same_each (x ∷ xs) [] e h = absurd (omega arith)
same_each (x ∷ xs) (y ∷ ys) e h = λ i. h 0 x y refl refl i ∷ same_each xs ys (omega arith) (λ k a b p q. h (suc k) a b p q) i

pub mapped_from : {X Y : Type 0} (f : X → Y) (xs : List X) (i : ℕ) (y : Y) → slice_get (map f xs) i ≡ Some y → (x : X) × (slice_get xs i ≡ Some x) × (f x ≡ y)
mapped_from f [] i y h = absurd (let g : None ≡ Some y = h in cc)
mapped_from f (x ∷ xs) zero y h = (x, refl, (let g : Some (f x) ≡ Some y = h in cc))
mapped_from f (x ∷ xs) (suc i) y h = mapped_from f xs i y h

-- what stands at a place in a list that is the same, mapped
pub same_at : {X Y Z : Type 0} (f : X → Z) (g : Y → Z) (xs : List X) (ys : List Y) (i : ℕ) (x : X) → map f xs ≡ map g ys → slice_get xs i ≡ Some x → (y : Y) × (slice_get ys i ≡ Some y) × (g y ≡ f x)
same_at f g xs ys i x e h = mapped_from g ys i (f x) (ap (λ t. slice_get t i) (sym e) ∙ slice_get-map f xs i ∙ ap (option_map f) h)

-- ---- cells that ascend

below_get : (b : ℕ) (cells : List (ℕ × Cell)) (n k : ℕ) (x : Cell) → T (below_all nat_cmp b cells) → slice_get cells n ≡ Some (k, x) → b < k
below_get b [] n k x up h = absurd (let g : None ≡ Some (k, x) = h in cc)
below_get b (c ∷ cells) zero k x up h =
    let e : c ≡ (k, x) = cc in
    subst (λ (t : ℕ × Cell). b < t.0) e (ranked b c.0 Less (sym (less _ (test_parts _ _ up).0)))
below_get b (c ∷ cells) (suc n) k x up h = below_get b cells n k x (test_parts _ _ up).1 h

same_kind : (a b : ℕ) → a ≡ b → eq_by_cmp nat_cmp a b ≡ true
same_kind a b e = grind (arith, nat_tests)

cell_there : (cells : List (ℕ × Cell)) (n k : ℕ) (x : Cell) → IsAscending cells → slice_get cells n ≡ Some (k, x) → cell_of cells k ≡ Some x
cell_there [] n k x up h = absurd (let g : None ≡ Some (k, x) = h in cc)
cell_there (c ∷ cells) zero k x up h =
    let e : c ≡ (k, x) = cc in
    ap (λ b. cond b (Some c.1) (cell_of cells k)) (same_kind k c.0 (ap (λ (t : ℕ × Cell). t.0) (sym e))) ∙ ap (λ (t : ℕ × Cell). Some t.1) e
cell_there (c ∷ cells) (suc n) k x up h =
    let l : c.0 < k = below_get c.0 cells n k x (test_parts _ _ up).0 h in
    ap (λ b. cond b (Some c.1) (cell_of cells k)) (other_kind k c.0 (λ e. omega arith)) ∙ cell_there cells n k x (test_parts _ _ up).1 h

none_there : (k : ℕ) (cells : List (ℕ × Cell)) → ((n j : ℕ) (x : Cell) → slice_get cells n ≡ Some (j, x) → j ≡ k → ⊥) → cell_of cells k ≡ None
none_there k [] h = refl
none_there k (c ∷ cells) h = ap (λ b. cond b (Some c.1) (cell_of cells k)) (other_kind k c.0 (λ e. h 0 c.0 c.1 refl (sym e))) ∙ none_there k cells (λ n j x p. h (suc n) j x p)

values_below : (b : ℕ) (cells : List (ℕ × Cell)) → T (below_all nat_cmp b cells) → T (below_all nat_cmp b (map (λ c. (c.0, c.1.value)) cells))
values_below b [] up = up
values_below b (c ∷ cells) up = let p = test_parts _ _ up in both _ _ p.0 (values_below b cells p.1)
  where
    both : (x y : Bool) → T x → T y → T (x && y)
    both true y p q = q
    both false y p q = p

-- ---- steps

pub written_by : (steps : List RowStep) (k : ℕ) → is_written steps k ≡ true → (at : ℕ) × (s : RowStep) × (slice_get steps at ≡ Some s) × (target s ≡ k)
written_by [] k h = absurd (let g : false ≡ true = h in cc)
written_by (s ∷ steps) k h = elim (nat_eq (target s) k) as (λ b. nat_eq (target s) k ≡ b → (b || is_written steps k) ≡ true → (at : ℕ) × (t : RowStep) × (slice_get (s ∷ steps) at ≡ Some t) × (target t ≡ k)) [
  | true ↦ λ t g. (0, s, refl, eqb-true (target s) k t)
  | false ↦ λ t g. let r = written_by steps k g in (suc r.0, r.1, r.2, r.3)
] refl h

-- ---- a row of a run

module _ (steps : List RowStep) (entities : List Entity) (columns : List RunColumn) (turns : ℤ) (changed : Changed) (are : AreColumnsFor steps columns) where
  module _ (i : ℕ) (row : Row) (there : slice_get (rows_of entities (columns_after 0 columns turns changed)) i ≡ Some row) where
    row_has_kinds : kinds_in row.cells ≡ map (λ (c : RunColumn). c.kind) columns
    row_has_kinds = cells_kinds (columns_after 0 columns turns changed) i row.cells (row_parts entities (columns_after 0 columns turns changed) i row there).1 ∙ kinds_run 0 columns turns changed

    row_entity : slice_get entities i ≡ Some row.entity
    row_entity = (row_parts entities (columns_after 0 columns turns changed) i row there).0

    pub row_ascends : IsAscending row.cells
    row_ascends = subst T (ap rises (sym row_has_kinds) ∙ rises_is row.cells) are.rising

    -- it has only what the steps write
    pub row_lacks : (k : ℕ) → is_written steps k ≡ false → cell_of row.cells k ≡ None
    row_lacks k lacks = none_there k row.cells (λ n j x p e.
        let q : slice_get (map (λ (c : RunColumn). c.kind) columns) n ≡ Some j =
        ap (λ t. slice_get t n) (sym row_has_kinds) ∙ slice_get-map (λ (c : ℕ × Cell). c.0) row.cells n ∙ ap (option_map (λ (c : ℕ × Cell). c.0)) p in
        let c = mapped_from (λ (c : RunColumn). c.kind) columns n j q in
        let g : true ≡ false = sym (are.only n c.0 c.1) ∙ ap (is_written steps) (c.2 ∙ e) ∙ lacks in
        absurd (cc))

    -- and of each column its cell
    pub row_has : (n : ℕ) (c : RunColumn) (v : Value) (a t : ℕ) → slice_get columns n ≡ Some c → slice_get (grown c.series turns) i ≡ Some v → slice_get c.added.items i ≡ Some a
        → slice_get (changed_of changed n (length c.added.items)) i ≡ Some t → cell_of row.cells c.kind ≡ Some (record { value = v; added = a; changed = t })
    row_has n c v a t at value tick last =
        let ticks_is = changed_of changed n (length c.added.items) in
        let cell = zip-get stamped (grown c.series turns) (zip_with ticks c.added.items ticks_is) i v (a, t) value (zip-get ticks c.added.items ticks_is i a t tick last) in
        cell_there row.cells n c.kind (record { value = v; added = a; changed = t }) row_ascends
        (cell_of_run entities columns turns changed i n c (record { value = v; added = a; changed = t }) row (slice_get_within columns n c at) (sym (get_or_from_slice_get columns n c c at)) cell there).1

-- ---- sums

sum_is : (x by y : ℤ) → y ≡ x +ℤ by → is_i64 y ≡ true → sum x by ≡ Some y
sum_is x by y e fits = ap (λ b. cond b (Some (x +ℤ by)) None) (ap is_i64 (sym e) ∙ fits) ∙ ap (λ (z : ℤ). Some z) (sym e)

one_more : (t : ℤ) → t +ℤ pos 1 ≡ suc_ℤ t
one_more (pos n) = let e : n + 1 ≡ suc n = omega arith in ap (λ (k : ℕ). pos k) e
one_more (negsuc zero) = refl
one_more (negsuc (suc n)) = let e : negsuc (suc n) +ℤ pos 1 ≡ negsuc n = omega (arith, ints) in e

-- a number after one turn more
number_after_next : (b by turns : ℤ) → number_after b by (turns +ℤ pos 1) ≡ number_after b by turns +ℤ by
number_after_next b by turns =
    let more : by *ℤ (turns +ℤ pos 1) ≡ by *ℤ turns +ℤ by = *ℤ_comm by (turns +ℤ pos 1) ∙ ap (λ t. t *ℤ by) (one_more turns) ∙ suc_ℤ-*ℤ turns by ∙ ap (λ t. t +ℤ by) (*ℤ_comm turns by) in
    joined b (by *ℤ turns) (by *ℤ (turns +ℤ pos 1)) by more
  where
    joined : (p x y q : ℤ) → y ≡ x +ℤ q → p +ℤ y ≡ (p +ℤ x) +ℤ q
    joined p x y q e = omega (arith, ints, e)

ints_next : (base : List ℤ) (by turns : ℤ) (i : ℕ) (v : Value) → slice_get (ints_after base by turns) i ≡ Some v → AreInRange (ints_after base by (turns +ℤ pos 1))
    → (w : Value) × (slice_get (ints_after base by (turns +ℤ pos 1)) i ≡ Some w) × (value_sum v (Int by) ≡ Some w)
ints_next [] by turns i v h fits = absurd (let g : None ≡ Some v = h in cc)
ints_next (b ∷ base) by turns zero v h fits =
    let e : v ≡ Int (number_after b by turns) = cc in (
      Int (number_after b by (turns +ℤ pos 1)),
      refl,
      ap (λ x. value_sum x (Int by)) e
          ∙ ap (option_map Int) (sum_is (number_after b by turns) by (number_after b by (turns +ℤ pos 1)) (number_after_next b by turns) (and_left (is_i64 (number_after b by (turns +ℤ pos 1))) _ fits)),
    )
ints_next (b ∷ base) by turns (suc i) v h fits = ints_next base by turns i v h (and_right (is_i64 (number_after b by (turns +ℤ pos 1))) _ fits)

parts_next : (b d : List ℤ) (turns : ℤ) → list_all is_i64 (vector_after b d (turns +ℤ pos 1)) ≡ true → sums (vector_after b d turns) d ≡ Some (vector_after b d (turns +ℤ pos 1))
parts_next [] d turns fits = refl
parts_next (x ∷ b) [] turns fits = refl
parts_next (x ∷ b) (y ∷ d) turns fits =
    let first = sum_is (number_after x y turns) y (number_after x y (turns +ℤ pos 1)) (number_after_next x y turns) (and_left (is_i64 (number_after x y (turns +ℤ pos 1))) _ fits) in
    let rest = parts_next b d turns (and_right (is_i64 (number_after x y (turns +ℤ pos 1))) _ fits) in
    λ i. option_and_then (λ (z : ℤ). option_map (λ (zs : List ℤ). z ∷ zs) (rest i)) (first i)

vecs_next : (base by : List (List ℤ)) (turns : ℤ) (i : ℕ) (v : Value) (d : List ℤ) → slice_get (vecs_after base by turns) i ≡ Some v → slice_get by i ≡ Some d → AreInRange (vecs_after base by (turns +ℤ pos 1))
    → (w : Value) × (slice_get (vecs_after base by (turns +ℤ pos 1)) i ≡ Some w) × (value_sum v (Vec3 d) ≡ Some w)
vecs_next [] by turns i v d h g fits = absurd (let k : None ≡ Some v = h in cc)
vecs_next (b ∷ base) [] turns i v d h g fits = absurd (let k : None ≡ Some v = h in cc)
vecs_next (b ∷ base) (y ∷ by) turns zero v d h g fits =
    let e : v ≡ Vec3 (vector_after b y turns) = cc in
    let f : d ≡ y = cc in (
      Vec3 (vector_after b y (turns +ℤ pos 1)),
      refl,
      (λ j. value_sum (e j) (Vec3 (f j))) ∙ ap (option_map Vec3) (parts_next b y turns (and_right _ _ (and_left (is_in_range (Vec3 (vector_after b y (turns +ℤ pos 1)))) _ fits))),
    )
vecs_next (b ∷ base) (y ∷ by) turns (suc i) v d h g fits = vecs_next base by turns i v d h g (and_right (is_in_range (Vec3 (vector_after b y (turns +ℤ pos 1)))) _ fits)

-- what a step adds to the value of a column in a row, and the sum
sum_next : (s : RowStep) (by : Option ℕ) (series : Series) (rows : List Row) (row : Row) (i : ℕ) (turns : ℤ) (v : Value) → AddsAs s series → by ≡ added_kind s → HaveAddends rows by series → AreInRange (grown series (turns +ℤ pos 1))
    → slice_get rows i ≡ Some row → slice_get (grown series turns) i ≡ Some v
    → (a : Value) × (w : Value) × (addend s (values_of row) ≡ Some a) × (slice_get (grown series (turns +ℤ pos 1)) i ≡ Some w) × (value_sum v a ≡ Some w)
sum_next (AddInt to by) k (Ints base each) rows row i turns v adds e have fits there h =
    let r = ints_next base.items each turns i v h fits in
    (Int by, r.0, refl, r.1, ap (λ x. value_sum v (Int x)) (sym adds) ∙ r.2)
sum_next (AddInt to by) k (Vecs base each) rows row i turns v adds e have fits there h = absurd adds
sum_next (AddVec to by) k (Ints base each) rows row i turns v adds e have fits there h = absurd adds
sum_next (AddVec to by) k (Vecs base each) rows row i turns v adds e have fits there h =
    let of_by = subst (λ (o : Option ℕ). HaveAddends rows o (Vecs base each)) e have in
    let d = same_at (λ (r : Row). option_map (λ (cell : Cell). cell.value) (cell_of r.cells by)) (λ (vector : List ℤ). Some (Vec3 vector)) rows each.items i row of_by there in
    let r = vecs_next base.items each.items turns i v d.0 h d.1 fits in
    (Vec3 d.0, r.0, value_found row by (Vec3 d.0) (sym d.2), r.1, r.2)

-- ---- steps in order

-- a step has a sum, and what follows has it
record IsSum (values : Values) (next : ℕ → Option Value) (s : RowStep) : Type 0 where
  v : Value
  a : Value
  w : Value
  found : find nat_cmp (target s) values ≡ Some v
  adds : addend s values ≡ Some a
  is : value_sum v a ≡ Some w
  then : next (target s) ≡ Some w

-- what steps leave: the sums of what they write, and all else
record IsDone (n : ℕ) (steps : List RowStep) (values : Values) (next : ℕ → Option Value) : Type 0 where
  left : Values
  after : after_steps n steps values ≡ Ok left
  ascends : T (is_sorted nat_cmp left)
  finds : (k : ℕ) → find nat_cmp k left ≡ cond (is_written steps k) (next k) (find nat_cmp k values)

either_same : {X : Type 0} (b : Bool) (x y : X) → x ≡ y → x ≡ cond b x y
either_same true x y e = refl
either_same false x y e = e

-- steps that spare one another find what was there before the first, and leave the sums
steps_done : (n : ℕ) (steps : List RowStep) (values : Values) (next : ℕ → Option Value) → T (is_sorted nat_cmp values)
    → ((i j : ℕ) (s t : RowStep) → i < j → slice_get steps i ≡ Some s → slice_get steps j ≡ Some t → Spares (target s) t) → ((at : ℕ) (s : RowStep) → slice_get steps at ≡ Some s → IsSum values next s)
    → IsDone n steps values next
steps_done n [] values next up spare sums = record { left = values; after = refl; ascends = up; finds = λ k. refl }
steps_done n (s ∷ steps) values next up spare sums =
    let one = sums 0 s refl in
    let now = put nat_cmp (target s) one.w values in
    let did : step_on s values ≡ Some now = (λ i. added values (target s) (one.found i) (one.adds i)) ∙ ap (option_map (λ (x : Value). put nat_cmp (target s) x values)) one.is in
    let rest = steps_done (n + 1) steps now next (is_sorted-put nat_cmp nat_cmp_total (target s) one.w values up) (λ i j x y l p q. spare (suc i) (suc j) x y (omega arith) p q)
    (λ at t there.
    let o = sums (suc at) t there in
    let far = spare 0 (suc at) s t (omega arith) refl there in
    record { v = o.v; a = o.a; w = o.w; found = target_found t (target s) one.w values far ∙ o.found; adds = same_addend t (target s) one.w values far ∙ o.adds; is = o.is; then = o.then }) in record {
      left = rest.left;
      after = ap (λ o. unless_overflow n o (λ nx. after_steps (n + 1) steps nx)) did ∙ rest.after;
      ascends = rest.ascends;
      finds = λ k. rest.finds k ∙ ap (cond (is_written steps k) (next k)) (find-put nat_cmp nat_cmp_total k (target s) one.w values)
          ∙ elim (nat_eq (target s) k) as (λ b. nat_eq (target s) k ≡ b → cond (is_written steps k) (next k) (cond (eq_by_cmp nat_cmp k (target s)) (Some one.w) (find nat_cmp k values)) ≡ cond (b || is_written steps k) (next k) (find nat_cmp k values)) [
            | true ↦ λ t. ap (λ b. cond (is_written steps k) (next k) (cond b (Some one.w) (find nat_cmp k values))) (same_test (target s) k t)
                ∙ sym (either_same (is_written steps k) (next k) (Some one.w) (ap next (sym (eqb-true (target s) k t)) ∙ one.then))
            | false ↦ λ t. ap (λ b. cond (is_written steps k) (next k) (cond b (Some one.w) (find nat_cmp k values))) (other_test (target s) k t)
          ] refl;
    }

values_ascend : (cells : List (ℕ × Cell)) → IsAscending cells → T (is_sorted nat_cmp (map (λ c. (c.0, c.1.value)) cells))
values_ascend [] up = up
values_ascend (c ∷ cells) up = let p = test_parts _ _ up in both _ _ (values_below c.0 cells p.0) (values_ascend cells p.1)
  where
    both : (x y : Bool) → T x → T y → T (x && y)
    both true y p q = q
    both false y p q = p

-- ---- rows of which a run goes on

-- the row at a place has what a column of a run has there
record StandsAt (turns : ℤ) (before : Changed) (i n : ℕ) (c : RunColumn) (row : Row) : Type 0 where
  v : Value
  a : ℕ
  t : ℕ
  value : slice_get (grown c.series turns) i ≡ Some v
  tick : slice_get c.added.items i ≡ Some a
  last : slice_get (changed_of before n (length c.added.items)) i ≡ Some t
  cell : cell_of row.cells c.kind ≡ Some (record { value = v; added = a; changed = t })

module _ (rows : List Row) (run : RunState) (turns : ℤ) (before : Changed) (up : All (λ (row : Row). IsAscending row.cells) rows) (apart : AreApart run.steps) (are : AreColumnsFor run.steps run.columns)
    (long : AreLongFor run.entities run.columns) (stands : Stands rows run turns) (ticks : HasTicks rows run before) (fits : HoldsAt run (turns +ℤ pos 1)) where
  own_count : length run.entities ≡ length rows
  own_count = ap length stands.entities ∙ length-mapped (λ (row : Row). row.entity) rows

  own_length : (t : ℤ) → length (rows_after run t before) ≡ length rows
  own_length t =
      length-rows_of run.entities (columns_after 0 run.columns t before)
      (columns_long 0 run.columns run.entities t before long (λ k c there.
      ap (λ n. length (changed_of before n (length run.entities))) (omega arith)
      ∙ subst (λ n. length (changed_of before k n) ≡ n) (sym own_count) (ticks_long rows run before ticks k c there)))
      ∙ own_count

  of_column : (P : RunColumn → Type 0) (n : ℕ) (c : RunColumn) → All P run.columns → slice_get run.columns n ≡ Some c → P c
  of_column P n c all at = subst P (get_or_from_slice_get run.columns n c c at) (all n c (slice_get_within run.columns n c at))

  -- what stands in a row, of a column
  row_stands : (i n : ℕ) (c : RunColumn) (row : Row) → slice_get run.columns n ≡ Some c → slice_get rows i ≡ Some row → StandsAt turns before i n c row
  row_stands i n c row at there =
      let s : StandsColumn rows turns c = of_column (StandsColumn rows turns) n c stands.columns at in
      let v = same_at (λ (r : Row). option_map (λ (cell : Cell). cell.value) (cell_of r.cells c.kind)) (λ (x : Value). Some x) rows (grown c.series turns) i row s.values there in
      let a = same_at (λ (r : Row). option_map (λ (cell : Cell). cell.added) (cell_of r.cells c.kind)) (λ (x : ℕ). Some x) rows c.added.items i row s.added there in
      let t = same_at (λ (r : Row). option_map (λ (cell : Cell). cell.changed) (cell_of r.cells c.kind)) (λ (x : ℕ). Some x) rows (changed_of before n (length rows)) i row (sym (ticks n c at)) there in
      let wide : length rows ≡ length c.added.items =
      sym ((of_column (λ (x : RunColumn). (length x.added.items ≡ length run.entities) × (length (grown x.series (pos 0)) ≡ length run.entities)) n c long at).0 ∙ own_count) in
      record {
        v = v.0;
        a = a.0;
        t = t.0;
        value = v.1;
        tick = a.1;
        last = ap (λ k. slice_get (changed_of before n k) i) (sym wide) ∙ t.1;
        cell = cell_parts (cell_of row.cells c.kind) v.0 a.0 t.0 (sym v.2) (sym a.2) (sym t.2);
      }
    where
      cell_parts : (o : Option Cell) (v : Value) (a t : ℕ) → option_map (λ (cell : Cell). cell.value) o ≡ Some v → option_map (λ (cell : Cell). cell.added) o ≡ Some a → option_map (λ (cell : Cell). cell.changed) o ≡ Some t
          → o ≡ Some (record { value = v; added = a; changed = t })
      cell_parts None v a t p q r = absurd (let g : None ≡ Some v = p in cc)
      cell_parts (Some x) v a t p q r =
          let e : x.value ≡ v = (let g : Some x.value ≡ Some v = p in cc) in
          let f : x.added ≡ a = (let g : Some x.added ≡ Some a = q in cc) in
          let g : x.changed ≡ t = (let h : Some x.changed ≡ Some t = r in cc) in
          λ j. Some (record { value = e j; added = f j; changed = g j })

  same_entity : (i : ℕ) (row : Row) (e : Entity) → slice_get rows i ≡ Some row → slice_get run.entities i ≡ Some e → e ≡ row.entity
  same_entity i row e there is =
      let g : Some e ≡ Some row.entity = sym is ∙ ap (λ t. slice_get t i) stands.entities ∙ slice_get-map (λ (r : Row). r.entity) rows i ∙ ap (option_map (λ (r : Row). r.entity)) there in cc

  alike : (k x : ℕ) → nat_cmp k x ≡ Equal → is_written run.steps x ≡ is_written run.steps k
  alike k x t = ap (is_written run.steps) (sym (same_key k x t))

  row_up : (i : ℕ) (row : Row) → slice_get rows i ≡ Some row → IsAscending row.cells
  row_up i row there = subst (λ (r : Row). IsAscending r.cells) (get_or_from_slice_get rows i row row there) (up i row (slice_get_within rows i row there))

  module _ (i : ℕ) (row own : Row) (there : slice_get rows i ≡ Some row) where
    module _ (at : slice_get (rows_after run turns before) i ≡ Some own) where
      same_cell : (k : ℕ) → cell_of own.cells k ≡ cond (is_written run.steps k) (cell_of row.cells k) None
      same_cell k = elim (is_written run.steps k) as (λ b. is_written run.steps k ≡ b → cell_of own.cells k ≡ cond b (cell_of row.cells k) None) [
        | true ↦ λ t.
            let s = written_by run.steps k t in
            let c = are.each s.0 s.1 s.2 in
            let h = row_stands i c.0 c.1 row c.2 there in
            subst (λ j. cell_of own.cells j ≡ cell_of row.cells j) (c.3.kind ∙ s.3) (row_has run.steps run.entities run.columns turns before are i own at c.0 c.1 h.v h.a h.t c.2 h.value h.tick h.last ∙ sym h.cell)
        | false ↦ λ t. row_lacks run.steps run.entities run.columns turns before are i own at k t
      ] refl

      row_now : own ≡ written_cells run.steps row
      row_now =
          let cells = same_entries nat_cmp nat_cmp_total same_key own.cells (written_cells run.steps row).cells (row_ascends run.steps run.entities run.columns turns before are i own at)
          (is_sorted-where_key nat_cmp (is_written run.steps) row.cells (row_up i row there)) (λ k. same_cell k ∙ sym (find-where_key nat_cmp (is_written run.steps) k (alike k) row.cells)) in
          let entity = same_entity i row own.entity there (row_entity run.steps run.entities run.columns turns before are i own at) in
          λ j. record { entity = entity j; cells = cells j }

    -- after one turn more, with any ticks
    module _ (later : Changed) (at : slice_get (rows_after run (turns +ℤ pos 1) later) i ≡ Some own) (last : (n : ℕ) (c : RunColumn) → slice_get run.columns n ≡ Some c → (t : ℕ) × (slice_get (changed_of later n (length c.added.items)) i ≡ Some t)) where
      abbrev next_value : ℕ → Option Value
      next_value k = find nat_cmp k (values_of own)

      step_sum : (n : ℕ) (s : RowStep) → slice_get run.steps n ≡ Some s → IsSum (values_of row) next_value s
      step_sum n s is =
          let c = are.each n s is in
          let h = row_stands i c.0 c.1 row c.2 there in
          let column : StandsColumn rows turns c.1 = of_column (StandsColumn rows turns) c.0 c.1 stands.columns c.2 in
          let sum = sum_next s c.1.by c.1.series rows row i turns h.v c.3.adds c.3.by column.addends (of_column (λ (x : RunColumn). AreInRange (grown x.series (turns +ℤ pos 1))) c.0 c.1 fits c.2) there h.value in
          let has = row_has run.steps run.entities run.columns (turns +ℤ pos 1) later are i own at c.0 c.1 sum.1 h.a (last c.0 c.1 c.2).0 c.2 sum.3 h.tick (last c.0 c.1 c.2).1 in
          record {
            v = h.v;
            a = sum.0;
            w = sum.1;
            found = subst (λ k. find nat_cmp k (values_of row) ≡ Some h.v) c.3.kind (value_found row c.1.kind h.v (ap (option_map (λ (x : Cell). x.value)) h.cell));
            adds = sum.2;
            is = sum.4;
            then = subst (λ k. next_value k ≡ Some sum.1) c.3.kind (value_found own c.1.kind sum.1 (ap (option_map (λ (x : Cell). x.value)) has));
          }

      row_done : IsDone 0 run.steps (values_of row) next_value
      row_done = steps_done 0 run.steps (values_of row) next_value (values_ascend row.cells (row_up i row there)) (λ a b s t l p q. spares_each run.steps apart b t q a s l p) step_sum

      same_value : (k : ℕ) → next_value k ≡ cond (is_written run.steps k) (find nat_cmp k row_done.left) None
      same_value k = elim (is_written run.steps k) as (λ b. is_written run.steps k ≡ b → find nat_cmp k row_done.left ≡ cond b (next_value k) (find nat_cmp k (values_of row)) → next_value k ≡ cond b (find nat_cmp k row_done.left) None) [
        | true ↦ λ t e. sym e
        | false ↦ λ t e. find_in k own.cells ∙ ap (option_map (λ (x : Cell). x.value)) (row_lacks run.steps run.entities run.columns (turns +ℤ pos 1) later are i own at k t)
      ] refl (row_done.finds k)

      row_next : Some (values_of own) ≡ written_values run.steps row
      row_next =
          ap (λ (vs : Values). Some vs)
          (same_entries nat_cmp nat_cmp_total same_key (values_of own) (filter (λ v. is_written run.steps v.0) row_done.left)
          (values_ascend own.cells (row_ascends run.steps run.entities run.columns (turns +ℤ pos 1) later are i own at)) (is_sorted-where_key nat_cmp (is_written run.steps) row_done.left row_done.ascends)
          (λ k. same_value k ∙ sym (find-where_key nat_cmp (is_written run.steps) k (alike k) row_done.left)))
          ∙ ap (written_of run.steps) (sym row_done.after)

  -- the run has what stands in the rows, and after one turn more what the steps make of them
  pub goes_on : GoesOn rows run.steps run turns before
  goes_on = record {
    entities = stands.entities;
    now = same_each (rows_after run turns before) (map (written_cells run.steps) rows) (own_length turns ∙ sym (length-mapped (written_cells run.steps) rows)) (λ i x y p q.
        let m = mapped_from (written_cells run.steps) rows i y q in row_now i m.0 x m.1 p ∙ m.2);
    next = same_each (map (λ (row : Row). Some (values_of row)) (rows_after run (turns +ℤ pos 1) before)) (map (written_values run.steps) rows)
        (length-mapped (λ (row : Row). Some (values_of row)) (rows_after run (turns +ℤ pos 1) before) ∙ own_length (turns +ℤ pos 1) ∙ sym (length-mapped (written_values run.steps) rows)) (λ i x y p q.
        let m = mapped_from (written_values run.steps) rows i y q in
        let n = mapped_from (λ (row : Row). Some (values_of row)) (rows_after run (turns +ℤ pos 1) before) i x p in
        sym n.2 ∙ row_next i m.0 n.0 m.1 before n.1 (λ k c there. let h = row_stands i k c m.0 there m.1 in (h.t, h.last)) ∙ m.2);
  }

  -- ---- what a turn writes into each row

  later_length : (tick : ℕ) → length (rows_after run (turns +ℤ pos 1) (Same tick)) ≡ length rows
  later_length tick =
      length-rows_of run.entities (columns_after 0 run.columns (turns +ℤ pos 1) (Same tick))
      (columns_long 0 run.columns run.entities (turns +ℤ pos 1) (Same tick) long (λ k c there. length-replicate (length run.entities) tick))
      ∙ own_count

  module _ (tick i : ℕ) (row own : Row) (there : slice_get rows i ≡ Some row) (at : slice_get (rows_after run (turns +ℤ pos 1) (Same tick)) i ≡ Some own) where
    tick_last : (n : ℕ) (c : RunColumn) → slice_get run.columns n ≡ Some c → (t : ℕ) × (slice_get (changed_of (Same tick) n (length c.added.items)) i ≡ Some t)
    tick_last n c is = let h = row_stands i n c row is there in (tick, same_tick (length c.added.items) i tick (slice_get_within c.added.items i h.a h.tick))

    -- a written cell is the old one with its value, at the tick
    cell_written : (k : ℕ) → option_or (cell_of own.cells k) (cell_of row.cells k) ≡ cell_or tick (find nat_cmp k (values_of own)) (cell_of row.cells k)
    cell_written k = elim (is_written run.steps k) as (λ b. is_written run.steps k ≡ b → option_or (cell_of own.cells k) (cell_of row.cells k) ≡ cell_or tick (find nat_cmp k (values_of own)) (cell_of row.cells k)) [
      | true ↦ λ t.
          let s = written_by run.steps k t in
          let c = are.each s.0 s.1 s.2 in
          let h = row_stands i c.0 c.1 row c.2 there in
          let sums = grown c.1.series (turns +ℤ pos 1) in
          let w = get_or sums i h.v in
          let sum = slice_get-get_or sums i h.v (omega (arith, length-grown c.1.series (turns +ℤ pos 1) turns, slice_get_within (grown c.1.series turns) i h.v h.value)) in
          let last = same_tick (length c.1.added.items) i tick (slice_get_within c.1.added.items i h.a h.tick) in
          let has = row_has run.steps run.entities run.columns (turns +ℤ pos 1) (Same tick) are i own at c.0 c.1 w h.a tick c.2 sum h.tick last in
          let value = value_found own c.1.kind w (ap (option_map (λ (x : Cell). x.value)) has) in
          subst (λ j. option_or (cell_of own.cells j) (cell_of row.cells j) ≡ cell_or tick (find nat_cmp j (values_of own)) (cell_of row.cells j)) (c.3.kind ∙ s.3)
          (ap (λ o. option_or o (cell_of row.cells c.1.kind)) has ∙ sym (λ j. cell_or tick (value j) (h.cell j)))
      | false ↦ λ t.
          let none = row_lacks run.steps run.entities run.columns (turns +ℤ pos 1) (Same tick) are i own at k t in
          ap (λ o. option_or o (cell_of row.cells k)) none ∙ sym (ap (λ o. cell_or tick o (cell_of row.cells k)) (find_in k own.cells ∙ ap (option_map (λ (x : Cell). x.value)) none))
    ] refl

    row_written : Some (with_cells row own.cells) ≡ option_map (with_values tick row) (written_values run.steps row)
    row_written =
        let rising = row_ascends run.steps run.entities run.columns (turns +ℤ pos 1) (Same tick) are i own at in
        let values = values_ascend own.cells rising in
        let cells = same_entries nat_cmp nat_cmp_total same_key (with_cells row own.cells).cells (with_values tick row (values_of own)).cells (ascending-with_cells row own.cells (row_up i row there))
        (ascending-with_values tick row (values_of own) (row_up i row there)) (λ k. cell_of-with_cells row own.cells k rising ∙ cell_written k ∙ sym (cell_of-with_values tick row (values_of own) k values)) in
        let entity = sym (with_cells-entity row own.cells) ∙ with_values-entity tick row (values_of own) in
        (λ j. Some (record { entity = entity j; cells = cells j })) ∙ ap (option_map (with_values tick row)) (row_next i row own there (Same tick) at tick_last)

  pub turn_writes_steps : (tick : ℕ) → map (λ (row : Row). Some row) (rows_with_rows rows (rows_after run (turns +ℤ pos 1) (Same tick))) ≡ map (λ (row : Row). option_map (with_values tick row) (written_values run.steps row)) rows
  turn_writes_steps tick =
      let written = rows_after run (turns +ℤ pos 1) (Same tick) in
      let over = rows_with_rows rows written in
      let count = zip-length (λ (row w : Row). with_cells row w.cells) rows written (sym (later_length tick)) in
      same_each (map (λ (row : Row). Some row) over) (map (λ (row : Row). option_map (with_values tick row) (written_values run.steps row)) rows)
      (length-mapped (λ (row : Row). Some row) over ∙ count ∙ sym (length-mapped (λ (row : Row). option_map (with_values tick row) (written_values run.steps row)) rows)) (λ i x y p q.
      let m = mapped_from (λ (row : Row). option_map (with_values tick row) (written_values run.steps row)) rows i y q in
      let n = mapped_from (λ (row : Row). Some row) over i x p in
      let own = get_or written i m.0 in
      let at = slice_get-get_or written i m.0 (omega (arith, later_length tick, slice_get_within rows i m.0 m.1)) in
      let is : n.0 ≡ with_cells m.0 own.cells = (let g : Some n.0 ≡ Some (with_cells m.0 own.cells) = sym n.1 ∙ zip-get (λ (row w : Row). with_cells row w.cells) rows written i m.0 own m.1 at in cc) in
      sym n.2 ∙ ap (λ (r : Row). Some r) is ∙ row_written tick i m.0 own m.1 at ∙ m.2)
