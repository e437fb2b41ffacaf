-- What row steps make of rows.
use Rattle.std.specs.Prelude.{ℕ, List, [], ◌∷◌, map, Option, Some, None, Result, Ok, Err}
use Rattle.std.specs.List.{filter}
use Rattle.scene_kinds.specs.declared.entity.Entity.{Entity}
use Rattle.scene_kinds.specs.declared.cells.Row.{Row}
use Rattle.scene_model.specs.World.{World}
use Rattle.scene_systems.specs.declared.filter.Filter.{Filter}
use Rattle.scene_table.specs.declared.row_step.RowStep.{RowStep}
use Rattle.scene_table.specs.RowStep.{is_written}
pub use Rattle.scene_table.specs.Steps.{Values, values_of, sum, sums, value_sum, addend, added, step_on, unless_overflow, after_steps}
use Rattle.scene_pass.specs.Pass.{matching_rows}
use Rattle.scene_pass.specs.declared.row_change.RowChange.{RowChange}
use Rattle.scene_pass.specs.declared.row_change.Outcome.{Outcome}
use Rattle.scene_pass.specs.declared.row_change.Outcome.TheVariants.{Changed, Overflow}

-- of the values after the steps, those that the steps wrote
abbrev pub outcome_of : List RowStep → Result Values ℕ → Outcome
outcome_of steps (Ok values) = Changed (filter (λ v. is_written steps v.0) values)
outcome_of steps (Err at) = Overflow at

-- what the steps make of a row
abbrev pub change_of : List RowStep → Row → RowChange
change_of steps row = record { entity = row.entity; outcome = outcome_of steps (after_steps 0 steps (values_of row)) }

-- what they make of each matching row, by ascending kind set, then by place
abbrev pub changes : World → Filter → List RowStep → List RowChange
changes w f steps = map (change_of steps) (matching_rows w f)

-- ---- the first overflow

-- the entity and the step of a row's overflow, or else what comes later
abbrev pub fault_or : Entity → Outcome → Option (Entity × ℕ) → Option (Entity × ℕ)
fault_or e (Changed cells) rest = rest
fault_or e (Overflow at) rest = Some (e, at)

-- the first row whose sum doesn't fit, with the place of the step
abbrev pub first_fault : List RowChange → Option (Entity × ℕ)
first_fault [] = None
first_fault (c ∷ cs) = fault_or c.entity c.outcome (first_fault cs)
