-- Rows in which the sum of a step doesn't fit.
use Rattle.std.proofs.Common.{◌≡◌, ℕ, ℤ, List, [], ◌∷◌, map, refl, ap, sym, ◌∙◌, true, false, Option, Some, cond}
use Rattle.std.specs.Prelude.{All, IsSome}
use Rattle.std.specs.List.{list_all}
use Rattle.std.specs.Option.{option_map, is_some}
use Rattle.std.specs.Ordering.{nat_cmp, eq_by_cmp}
use Rattle.std.specs.FinMap.Entries.{put, find}
use Rattle.std.proofs.lemmas.Bool.{and_from}
use Rattle.scene_kinds.specs.Cells.{cell_of}
use Rattle.scene_kinds.specs.declared.cell.Cell.{Cell}
use Rattle.scene_kinds.specs.declared.cells.Row.{Row}
use Rattle.scene_kinds.specs.declared.value.Value.{Value}
use Rattle.scene_kinds.specs.declared.value.Value.TheVariants.{Int}
use Rattle.scene_table.specs.declared.row_step.RowStep.{RowStep}
use Rattle.scene_table.specs.declared.row_step.RowStep.TheVariants.{AddVec, AddInt}
use Rattle.scene_table.specs.RowStep.{target}
use Rattle.scene_table.specs.Steps.{Values, values_of, value_sum, addend, added, step_on}
use Rattle.scene_table.specs.Runs.{Overflows, int_sums, values_in, vec_sums}
use Rattle.scene_table.proofs.FirstSums.{mapped_some}
use Rattle.scene_table.proofs.RunFacts.{first_near, rest_near}

-- the value of a kind in a row
pub find_in : (kind : ℕ) (cells : List (ℕ × Cell)) → find nat_cmp kind (map (λ c. (c.0, c.1.value)) cells) ≡ option_map (λ (cell : Cell). cell.value) (find nat_cmp kind cells)
find_in kind [] = refl
find_in kind (c ∷ cells) =
    ap (λ t. cond (eq_by_cmp nat_cmp kind c.0) (Some c.1.value) t) (find_in kind cells)
    ∙ elim (eq_by_cmp nat_cmp kind c.0) as (λ b. cond b (Some c.1.value) (option_map (λ (cell : Cell). cell.value) (find nat_cmp kind cells)) ≡ option_map (λ (cell : Cell). cell.value) (cond b (Some c.1) (find nat_cmp kind cells))) [
      | true ↦ refl
      | false ↦ refl
    ]

pub value_found : (row : Row) (kind : ℕ) (v : Value) → option_map (λ (cell : Cell). cell.value) (cell_of row.cells kind) ≡ Some v → find nat_cmp kind (values_of row) ≡ Some v
value_found row kind v e = find_in kind row.cells ∙ e

-- a step that fits has a sum
pub sum_fits : (s : RowStep) (values : Values) (v a : Value) → find nat_cmp (target s) values ≡ Some v → addend s values ≡ Some a → IsSome (step_on s values) → is_some (value_sum v a) ≡ true
sum_fits s values v a e f some =
    sym (mapped_some (λ (sum : Value). put nat_cmp (target s) sum values) (value_sum v a))
    ∙ ap is_some (sym (λ i. added values (target s) (e i) (f i)))
    ∙ some

first_value : (o p : Option Value) (os ps : List (Option Value)) → o ∷ os ≡ p ∷ ps → o ≡ p
first_value o p os ps e = cc

rest_values : (o p : Option Value) (os ps : List (Option Value)) → o ∷ os ≡ p ∷ ps → os ≡ ps
rest_values o p os ps e = cc

ints_fit : (to : ℕ) (by : ℤ) (rows : List Row) (values : List Value) → values_in rows to ≡ map (λ (v : Value). Some v) values → All (λ (row : Row). IsSome (step_on (AddInt to by) (values_of row))) rows
    → list_all is_some (int_sums values by) ≡ true
ints_fit to by [] [] e all = refl
ints_fit to by [] (v ∷ values) e all = absurd (let h : [] ≡ Some v ∷ map (λ (x : Value). Some x) values = e in cc)
ints_fit to by (r ∷ rows) [] e all = refl
ints_fit to by (r ∷ rows) (v ∷ values) e all =
    and_from (is_some (value_sum v (Int by))) (list_all is_some (int_sums values by))
    (sum_fits (AddInt to by) (values_of r) v (Int by) (value_found r to v (first_value _ _ (values_in rows to) (map (λ (x : Value). Some x) values) e)) refl
    (first_near (λ (row : Row). IsSome (step_on (AddInt to by) (values_of row))) r rows all))
    (ints_fit to by rows values (rest_values (option_map (λ (cell : Cell). cell.value) (cell_of r.cells to)) (Some v) _ _ e) (rest_near (λ (row : Row). IsSome (step_on (AddInt to by) (values_of row))) r rows all))

vecs_fit : (to by : ℕ) (rows : List Row) (values addends : List Value) → values_in rows to ≡ map (λ (v : Value). Some v) values → values_in rows by ≡ map (λ (v : Value). Some v) addends
    → All (λ (row : Row). IsSome (step_on (AddVec to by) (values_of row))) rows → list_all is_some (vec_sums values addends) ≡ true
vecs_fit to by rows [] addends e f all = refl
vecs_fit to by rows (v ∷ values) [] e f all = refl
vecs_fit to by [] (v ∷ values) (a ∷ addends) e f all = absurd (let h : [] ≡ Some v ∷ map (λ (x : Value). Some x) values = e in cc)
vecs_fit to by (r ∷ rows) (v ∷ values) (a ∷ addends) e f all =
    and_from (is_some (value_sum v a)) (list_all is_some (vec_sums values addends))
    (sum_fits (AddVec to by) (values_of r) v a (value_found r to v (first_value _ _ (values_in rows to) (map (λ (x : Value). Some x) values) e))
    (value_found r by a (first_value _ _ (values_in rows by) (map (λ (x : Value). Some x) addends) f))
    (first_near (λ (row : Row). IsSome (step_on (AddVec to by) (values_of row))) r rows all))
    (vecs_fit to by rows values addends (rest_values (option_map (λ (cell : Cell). cell.value) (cell_of r.cells to)) (Some v) _ _ e)
    (rest_values (option_map (λ (cell : Cell). cell.value) (cell_of r.cells by)) (Some a) _ _ f) (rest_near (λ (row : Row). IsSome (step_on (AddVec to by) (values_of row))) r rows all))

-- where a first sum doesn't fit, the step overflows in a row
pub ints_overflow : (to : ℕ) (by : ℤ) (rows : List Row) (values : List Value) → values_in rows to ≡ map (λ (v : Value). Some v) values → list_all is_some (int_sums values by) ≡ false → Overflows rows (AddInt to by)
ints_overflow to by rows values e fail all = let g : true ≡ false = sym (ints_fit to by rows values e all) ∙ fail in absurd (cc)

pub vecs_overflow : (to by : ℕ) (rows : List Row) (values addends : List Value) → values_in rows to ≡ map (λ (v : Value). Some v) values → values_in rows by ≡ map (λ (v : Value). Some v) addends
    → list_all is_some (vec_sums values addends) ≡ false → Overflows rows (AddVec to by)
vecs_overflow to by rows values addends e f fail all = let g : true ≡ false = sym (vecs_fit to by rows values addends e f all) ∙ fail in absurd (cc)
