-- What a system writes to the tables that it matches, one table after another.
use Rattle.std.specs.Prelude.{◌≡◌, ⊤, true, ℕ, List, [], ◌∷◌, Some, None, map}
use Rattle.std.specs.List.{Contains, filter, flat_map}
use Rattle.scene_kinds.specs.declared.entity.Entity.{Entity}
use Rattle.scene_kinds.specs.declared.refusal.Refusal.{Refusal}
use Rattle.scene_kinds.specs.KindSet.{KindSet}
use Rattle.scene_kinds.specs.Ranges.{is_in_range}
use Rattle.scene_kinds.specs.declared.value.Value.TheVariants.{Int}
use Rattle.scene_table.specs.declared.row_step.RowStep.{RowStep}
use Rattle.scene_table.specs.declared.row_step.RowStep.TheVariants.{AddVec, AddInt}
use Rattle.scene_table.specs.Tables.{rows_at}
use Rattle.scene_model.specs.World.{World, kind_sets}
use Rattle.scene_machine.specs.Queue.{play, reached, whole}
use Rattle.scene_world.specs.Stage.{Staged, Note, act}
use Rattle.scene_systems.specs.declared.system_rule.SystemRule.{SystemRule}
use Rattle.scene_systems.specs.Filter.{is_match}
use Rattle.scene_pass.specs.declared.row_change.RowChange.{RowChange}
use Rattle.scene_pass.specs.Changes.{change_of, first_fault}
use Rattle.scene_schedule.specs.Systems.{overflow_at, writes_of}

-- the kind sets that a system matches, ascending
abbrev pub sets_of : World → SystemRule → List KindSet
sets_of w rule = filter (is_match rule.filter) (kind_sets w)

-- what steps make of the rows of a kind set
abbrev pub changes_at : World → List RowStep → KindSet → List RowChange
changes_at w steps mask = map (change_of steps) (rows_at w.tables mask)

-- and of those of kind sets, one after another
abbrev pub changes_in : World → List RowStep → List KindSet → List RowChange
changes_in w steps sets = flat_map (changes_at w steps) sets

-- no kind set is listed twice
abbrev pub AreOnce : List KindSet → Type 0
AreOnce [] = ⊤
AreOnce (mask ∷ sets) = (Contains sets mask → ⊥) × AreOnce sets

-- a number that a step adds is one that its type can hold
abbrev pub AddsInRange : RowStep → Type 0
AddsInRange (AddVec to by) = ⊤
AddsInRange (AddInt to by) = is_in_range (Int by) ≡ true

-- all sums of changes fit, and their cells are written on a stage, change by change
pub record WroteOn {N : Type 0} (note : Note N) (changes : List RowChange) (old new : Staged N) : Type 0 where
  pub fit : first_fault changes ≡ None
  pub wrote : play (act note) (writes_of changes) old ≡ whole (reached new [])

-- a sum of changes doesn't fit, and this is the refusal, by the place of the system in its phase
pub record OverflowsAs (changes : List RowChange) (system : ℕ) (r : Refusal) : Type 0 where
  pub over : Entity × ℕ
  pub first : first_fault changes ≡ Some over
  pub refused : r ≡ overflow_at system over
