-- What a step that is alone makes of a row: it reads the values that it names, and nothing else of the row.
use Rattle.std.specs.Prelude.{ℕ, [], ◌∷◌, Option, Some, None}
use Rattle.std.specs.Ordering.{nat_cmp}
use Rattle.std.specs.FinMap.Entries.{find}
use Rattle.scene_kinds.specs.declared.value.Value.{Value}
use Rattle.scene_table.specs.declared.row_step.RowStep.{RowStep}
use Rattle.scene_table.specs.RowStep.{target}
use Rattle.scene_pass.specs.Changes.{Values, addend, value_sum}
use Rattle.scene_pass.specs.declared.row_change.Outcome.{Outcome}
use Rattle.scene_pass.specs.declared.row_change.Outcome.TheVariants.{Changed, Overflow}

-- a value that is written, or the overflow of the only step where there is none
abbrev pub written_or : ℕ → Option Value → Outcome
written_or kind None = Overflow 0
written_or kind (Some value) = Changed ((kind, value) ∷ [])

-- a value with another added to it; where there is nothing to add it stays, and where it isn't there nothing is written
abbrev pub lone : ℕ → Option Value → Option Value → Outcome
lone kind None by = Changed []
lone kind (Some value) None = Changed ((kind, value) ∷ [])
lone kind (Some value) (Some by) = written_or kind (value_sum value by)

-- what a step makes of the values of a row
abbrev pub lone_of : RowStep → Values → Outcome
lone_of s values = lone (target s) (find nat_cmp (target s) values) (addend s values)
