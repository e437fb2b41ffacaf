-- What row steps make of a row that is read in its table: only the values that the steps write are held apart.
use Rattle.std.specs.Prelude.{◌<◌, ℕ, ◌+◌, length, List, [], ◌∷◌, ℤ, Option, Some, None, option_map, slice_get, slice_set, nat_eq}
use Rattle.std.specs.Option.{unwrap_or, option_and_then}
use Rattle.std.specs.List.{filter, position_from}
use Rattle.std.specs.Ordering.{nat_cmp}
use Rattle.std.specs.FinMap.Entries.{find}
use Rattle.scene_kinds.specs.Cells.{IsAscending}
use Rattle.scene_kinds.specs.declared.cells.Row.{Row}
use Rattle.scene_kinds.specs.declared.value.Value.{Value}
use Rattle.scene_kinds.specs.declared.value.Value.TheVariants.{Int}
use Rattle.scene_table.specs.declared.row_step.RowStep.{RowStep}
use Rattle.scene_table.specs.declared.row_step.RowStep.TheVariants.{AddVec, AddInt}
use Rattle.scene_table.specs.RowStep.{target, is_written}
use Rattle.scene_pass.specs.Changes.{Values, value_sum}
use Rattle.scene_pass.specs.declared.row_change.Outcome.{Outcome}
use Rattle.scene_pass.specs.declared.row_change.Outcome.TheVariants.{Changed, Overflow}

-- ---- a row in its table

-- a row without cells, which stands nowhere
abbrev pub no_row : Row
no_row = record { entity = record { index = 0; generation = 0 }; cells = [] }

-- the row at a place
abbrev pub row_in : List Row → ℕ → Row
row_in rows at = unwrap_or (slice_get rows at) no_row

-- there is a row at a place, and its kinds ascend
pub record StandsIn (rows : List Row) (at : ℕ) : Type 0 where
  pub within : at < length rows
  pub ascending : IsAscending (row_in rows at).cells

-- ---- three sums

-- three numbers, if all are there
abbrev pub three : Option ℤ → Option ℤ → Option ℤ → Option (List ℤ)
three p q r = option_and_then (λ x. option_and_then (λ y. option_map (λ z. x ∷ y ∷ z ∷ []) r) q) p

-- ---- steps

-- of some values, those that the steps write
abbrev pub written_of : List RowStep → Values → Values
written_of steps values = filter (λ v. is_written steps v.0) values

-- the place of a kind among values
abbrev pub place_of : Values → ℕ → Option ℕ
place_of values kind = position_from (λ v. nat_eq kind v.0) 0 values

-- the value at a place
abbrev pub value_at : Values → ℕ → Option Value
value_at values at = option_map (λ v. v.1) (slice_get values at)

-- the value at the place of a kind among those that are written, or else the one that the row has
abbrev pub value_or : Values → Option ℕ → Option Value → Option Value
value_or written None own = own
value_or written (Some at) own = value_at written at

-- what a step adds
abbrev pub addend_in : RowStep → Values → Values → Option Value
addend_in (AddVec to by) own written = value_or written (place_of written by) (find nat_cmp by own)
addend_in (AddInt to by) own written = Some (Int by)

-- the value at a place with another added to it
abbrev pub sum_at : Values → ℕ → Value → Option Value
sum_at written at by = option_and_then (λ value. value_sum value by) (value_at written at)

-- the written values with a sum at a place, or none where it doesn't fit
abbrev pub put_sum : Values → ℕ → ℕ → Option Value → Option Values
put_sum written kind at sum = option_map (λ s. slice_set written at (kind, s)) sum

-- the written values with a value added to that of a kind
abbrev pub added_in : Values → ℕ → Option ℕ → Option Value → Option Values
added_in written kind (Some at) (Some by) = put_sum written kind at (sum_at written at by)
added_in written kind at by = Some written

-- one step
abbrev pub step_in : RowStep → Values → Values → Option Values
step_in s own written = added_in written (target s) (place_of written (target s)) (addend_in s own written)

-- what follows a step, unless its sum doesn't fit
abbrev pub goes_on : ℕ → Option Values → (Values → Outcome) → Outcome
goes_on at None rest = Overflow at
goes_on at (Some written) rest = rest written

-- the steps in order, counted from a place, over the values of a row and those of them that are written
abbrev pub outcome_in : ℕ → List RowStep → Values → Values → Outcome
outcome_in at [] own written = Changed written
outcome_in at (s ∷ ss) own written = goes_on at (step_in s own written) (λ next. outcome_in (at + 1) ss own next)
