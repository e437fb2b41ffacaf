-- Turns of runs that a recorder writes.
use Rattle.std.specs.Prelude.{◌≡◌, ◌<◌, ◌*◌, ◌^◌, ℤ, pos, ◌+ℤ◌, ◌<ℤ◌, FitsSigned, List, ◌++◌, Ok, length}
use Rattle.std.specs.Int.{w64}
use Rattle.scene_kinds.specs.KindSet.{KindSet}
use Rattle.scene_kinds.specs.declared.cells.Row.{Row}
use Rattle.scene_table.specs.declared.row_step.RowStep.{RowStep}
use Rattle.scene_table.specs.Runs.{AreColumnsFor, AreLongFor, HasTicks, HoldsAt, RunState, Stands}
use Rattle.scene_table.specs.Tables.{rows_at}
use Rattle.scene_model.specs.World.{World}
use Rattle.scene_world.specs.Room.{Room}
use Rattle.scene_world.specs.Stage.{act}
use Rattle.scene_world.specs.Written.{FitAll, acted, inserts}
use Rattle.scene_deltas.specs.declared.delta.Delta.{Delta}
use Rattle.scene_deltas.specs.Deltas.{back_all}
use Rattle.scene_deltas.specs.Notes.{deltas_of}
use Rattle.scene_deltas.specs.Ready.{AreReady}
use Rattle.scene_journal.specs.declared.turns.Found.{Found}

-- a run may have one turn more than so many: all sums fit, and the turns and the cells can be counted
pub record CanGoOn (run : RunState) (turns : ℤ) : Type 0 where
  pub whole : FitsSigned w64 turns
  pub now : HoldsAt run turns
  pub next : HoldsAt run (turns +ℤ pos 1)
  pub counted : (turns +ℤ pos 1) <ℤ pos (2 ^ 63)
  pub small : length run.entities * length run.columns < 2 ^ 64
  pub are : AreColumnsFor run.steps run.columns
  pub long : AreLongFor run.entities run.columns

-- a run of these steps over the table of a kind set
pub record IsRunOf (mask : KindSet) (steps : List RowStep) (run : RunState) : Type 0 where
  pub over : run.mask ≡ mask
  pub by : run.steps ≡ steps

-- a run that goes on in rows, with the ticks at which their cells were changed
pub record IsFound (rows : List Row) (mask : KindSet) (steps : List RowStep) (f : Found) : Type 0 where
  pub of : IsRunOf mask steps f.run.value
  pub can : CanGoOn f.run.value f.turns
  pub stands : Stands rows f.run.value f.turns
  pub ticks : HasTicks rows f.run.value f.before

-- steps are written to the table of a kind set, as their inserts one after another, with their deltas behind others; and
-- these can be taken back
pub record IsRecorded (room : Room) (w : World) (mask : KindSet) (steps : List RowStep) (before : List Delta) (new : World) (after : List Delta) : Type 0 where
  pub fit : FitAll steps (rows_at w.tables mask)
  pub is : acted (act deltas_of) (inserts w mask steps) (record { world = w; notes = before }) ≡ Ok (tt, record { world = new; notes = after })
  pub more : List Delta
  pub kept : after ≡ before ++ more
  pub ready : AreReady room more new
  pub back : back_all more new ≡ w
