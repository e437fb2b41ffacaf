-- What row steps make of the values of a row.
use Rattle.std.specs.Prelude.{ℕ, ◌+◌, List, [], ◌∷◌, ℤ, ◌+ℤ◌, map, Option, Some, None, option_map, Result, Ok, Err, if◌then◌else◌}
use Rattle.std.specs.Option.{option_and_then}
use Rattle.std.specs.Ordering.{nat_cmp}
use Rattle.std.specs.FinMap.Entries.{put, find}
use Rattle.scene_kinds.specs.declared.cells.Row.{Row}
use Rattle.scene_kinds.specs.declared.value.Value.{Value}
use Rattle.scene_kinds.specs.declared.value.Value.TheVariants.{Int, Vec3}
use Rattle.scene_kinds.specs.Ranges.{is_i64}
use Rattle.scene_table.specs.declared.row_step.RowStep.{RowStep}
use Rattle.scene_table.specs.declared.row_step.RowStep.TheVariants.{AddVec, AddInt}
use Rattle.scene_table.specs.RowStep.{target}

-- the values of a row, by kind
abbrev pub Values : Type 0
Values = List (ℕ × Value)

-- the values of a row, without their ticks
abbrev pub values_of : Row → Values
values_of row = map (λ c. (c.0, c.1.value)) row.cells

-- ---- sums

-- a sum that fits
abbrev pub sum : ℤ → ℤ → Option ℤ
sum x y = if is_i64 (x +ℤ y) then Some (x +ℤ y) else None

-- sums coordinate by coordinate, which all have to fit
abbrev pub sums : List ℤ → List ℤ → Option (List ℤ)
sums (x ∷ xs) (y ∷ ys) = option_and_then (λ z. option_map (λ zs. z ∷ zs) (sums xs ys)) (sum x y)
sums xs ys = Some []

-- numbers add to numbers and vectors to vectors; no step adds other values
abbrev pub value_sum : Value → Value → Option Value
value_sum (Int x) (Int y) = option_map Int (sum x y)
value_sum (Vec3 xs) (Vec3 ys) = option_map Vec3 (sums xs ys)
value_sum value by = Some value

-- ---- steps

-- what a step adds, by the values so far
abbrev pub addend : RowStep → Values → Option Value
addend (AddVec to by) values = find nat_cmp by values
addend (AddInt to by) values = Some (Int by)

-- the values with a sum at a kind, or none where it doesn't fit; where a kind isn't there, nothing changes
abbrev pub added : Values → ℕ → Option Value → Option Value → Option Values
added values kind (Some value) (Some by) = option_map (λ s. put nat_cmp kind s values) (value_sum value by)
added values kind value by = Some values

-- one step
abbrev pub step_on : RowStep → Values → Option Values
step_on s values = added values (target s) (find nat_cmp (target s) values) (addend s values)

-- what follows a step, unless its sum doesn't fit
abbrev pub unless_overflow : ℕ → Option Values → (Values → Result Values ℕ) → Result Values ℕ
unless_overflow at None rest = Err at
unless_overflow at (Some values) rest = rest values

-- the steps in order, counted from a place: the values after them, or the place of the first whose sum doesn't fit
abbrev pub after_steps : ℕ → List RowStep → Values → Result Values ℕ
after_steps at [] values = Ok values
after_steps at (s ∷ ss) values = unless_overflow at (step_on s values) (λ next. after_steps (at + 1) ss next)
