-- A step that is alone makes of a row what the steps of a list of it make.
use Rattle.std.proofs.Common.{◌≡◌, ◌<◌, ◌≤◌, ℕ, length, slice_index_or, ◌||◌, Bool, true, false, cond, List, [], ◌∷◌, refl, ap, subst, sym, ◌∙◌, arith, Option, Some, None, nat_eq}
use Rattle.std.specs.Prelude.{T, Ok, option_map}
use Rattle.std.specs.Ordering.{nat_cmp, eq_by_cmp}
use Rattle.std.specs.Cmp.{nat_cmp_total}
use Rattle.std.specs.FinMap.{nat_cmp-IsAntisymmetric}
use Rattle.std.specs.FinMap.Entries.{put, find, is_sorted, is_sorted-put, is_sorted-where_key, find-put, same_entries}
use Rattle.std.proofs.lemmas.Bool.{eq-eqb}
use Rattle.scene_kinds.specs.declared.cells.Row.{Row}
use Rattle.scene_kinds.specs.declared.value.Value.{Value}
use Rattle.scene_kinds.specs.Cells.{IsAscending}
use Rattle.scene_kinds.proofs.Maps.{equal_keys}
use Rattle.scene_kinds.proofs.Places.{eq_by_cmp-nat_eq}
use Rattle.scene_table.specs.declared.row_step.RowStep.{RowStep}
use Rattle.scene_table.specs.RowStep.{target, is_written}
use Rattle.scene_pass.specs.Changes.{Values, values_of, value_sum, addend, added, unless_overflow, after_steps, outcome_of}
use Rattle.scene_pass.specs.InPlace.{written_of}
use Rattle.scene_pass.specs.Lone.{lone, lone_of, written_or}
use Rattle.scene_pass.specs.declared.row_change.Outcome.TheVariants.{Changed}
use Rattle.scene_pass.proofs.ByKind.{find_kept}
use Rattle.scene_pass.proofs.WrittenValues.{same_order}

-- ---- a kind alone is written

-- the values of a kind that is there at most once
abbrev only : ℕ → Option Value → Values
only kind None = []
only kind (Some value) = (kind, value) ∷ []

only_rises : (kind : ℕ) (o : Option Value) → T (is_sorted nat_cmp (only kind o))
only_rises kind None = tt
only_rises kind (Some value) = tt

abbrev no_value : Option Value
no_value = None

not_there : (b : Bool) → None ≡ cond b no_value None
not_there true = refl
not_there false = refl

-- what is found among them
find_only : (q kind : ℕ) (o : Option Value) → find nat_cmp q (only kind o) ≡ cond (eq_by_cmp nat_cmp q kind) o None
find_only q kind None = not_there (eq_by_cmp nat_cmp q kind)
find_only q kind (Some value) = refl

-- a step that is alone writes its kind and no other
or_false : (b : Bool) → (b || false) ≡ b
or_false true = refl
or_false false = refl

swapped : (a b : ℕ) → nat_eq a b ≡ nat_eq b a
swapped a b = grind arith

writes_one : (s : RowStep) (q : ℕ) → is_written (s ∷ []) q ≡ eq_by_cmp nat_cmp q (target s)
writes_one s q = or_false (nat_eq (target s) q) ∙ swapped (target s) q ∙ sym (eq_by_cmp-nat_eq q (target s))

-- what is found of a kind, whether it is the step's
same_found : (s : RowStep) (values : Values) (q : ℕ) → find nat_cmp q (written_of (s ∷ []) values) ≡ find nat_cmp q (only (target s) (find nat_cmp (target s) values))
same_found s values q =
    find_kept (is_written (s ∷ [])) q values
    ∙ ap (λ b. cond b (find nat_cmp q values) None) (writes_one s q)
    ∙ elim (eq_by_cmp nat_cmp q (target s)) as (λ b. eq_by_cmp nat_cmp q (target s) ≡ b → cond b (find nat_cmp q values) None ≡ cond b (find nat_cmp (target s) values) None) [
      | true ↦ λ t. ap (λ k. find nat_cmp k values) (equal_keys nat_cmp-IsAntisymmetric q (target s) t)
      | false ↦ λ t. refl
    ] refl
    ∙ sym (find_only q (target s) (find nat_cmp (target s) values))

-- of values that ascend it writes at most one
written_one : (s : RowStep) (values : Values) → T (is_sorted nat_cmp values) → written_of (s ∷ []) values ≡ only (target s) (find nat_cmp (target s) values)
written_one s values up =
    same_entries nat_cmp nat_cmp_total nat_cmp-IsAntisymmetric (written_of (s ∷ []) values) (only (target s) (find nat_cmp (target s) values))
    (is_sorted-where_key nat_cmp (is_written (s ∷ [])) values up)
    (only_rises (target s) (find nat_cmp (target s) values))
    (same_found s values)

-- ---- what it makes of a row

-- the values of its kind after it
put_found : (s : RowStep) (values : Values) (sum : Value) → T (is_sorted nat_cmp values) → written_of (s ∷ []) (put nat_cmp (target s) sum values) ≡ (target s, sum) ∷ []
put_found s values sum up =
    written_one s (put nat_cmp (target s) sum values) (is_sorted-put nat_cmp nat_cmp_total (target s) sum values up)
    ∙ ap (only (target s)) (find-put nat_cmp nat_cmp_total (target s) (target s) sum values
    ∙ ap (λ b. cond b (Some sum) (find nat_cmp (target s) values)) (eq_by_cmp-nat_eq (target s) (target s) ∙ eq-eqb (target s) (target s) refl))

-- after a sum
after_sum : (s : RowStep) (values : Values) (sum : Option Value) → T (is_sorted nat_cmp values)
    → written_or (target s) sum ≡ outcome_of (s ∷ []) (unless_overflow 0 (option_map (λ v. put nat_cmp (target s) v values) sum) (λ next. Ok next))
after_sum s values None up = refl
after_sum s values (Some sum) up = ap Changed (sym (put_found s values sum up))

-- after a step, by the value of its kind and what it adds
after_one : (s : RowStep) (values : Values) (value by : Option Value) → T (is_sorted nat_cmp values) → find nat_cmp (target s) values ≡ value
    → lone (target s) value by ≡ outcome_of (s ∷ []) (unless_overflow 0 (added values (target s) value by) (λ next. Ok next))
after_one s values None by up is = ap Changed (sym (written_one s values up ∙ ap (only (target s)) is))
after_one s values (Some value) None up is = ap Changed (sym (written_one s values up ∙ ap (only (target s)) is))
after_one s values (Some value) (Some by) up is = after_sum s values (value_sum value by) up

-- what a step makes of a row whose kinds ascend
pub row_alone : (s : RowStep) (row : Row) → IsAscending row.cells → lone_of s (values_of row) ≡ outcome_of (s ∷ []) (after_steps 0 (s ∷ []) (values_of row))
row_alone s row up =
    let values = values_of row in after_one s values (find nat_cmp (target s) values) (addend s values) (subst T (sym (same_order row.cells)) up) refl

-- and what the only step of a list makes
pub one_step : (steps : List RowStep) (d : RowStep) (row : Row) → 1 ≤ length steps → length steps < 2 → IsAscending row.cells
    → lone_of (slice_index_or steps 0 d) (values_of row) ≡ outcome_of steps (after_steps 0 steps (values_of row))
one_step [] d row some few up = absurd (omega arith)
one_step (s ∷ []) d row some few up = row_alone s row up
one_step (s ∷ t ∷ ss) d row some few up = absurd (omega arith)
