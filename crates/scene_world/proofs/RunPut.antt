-- What a run writes to the tables of a world.
use Rattle.std.proofs.Common.{◌≡◌, ℤ, ap, sym, subst, ◌∙◌}
use Rattle.scene_table.specs.Runs.{AreLongFor, Changed, RunState, rows_after, rows_with_rows}
use Rattle.scene_table.specs.Tables.{Tables, rows_at, with_rows}
use Rattle.scene_model.specs.RunRaw.{CanPutRun, with_run}
use Rattle.scene_model.specs.Valid.{IsValid}
use Rattle.scene_model.specs.World.{World}
use Rattle.scene_model.proofs.MoveKeeps.{with_tables}
use Rattle.scene_model.proofs.RunCells.{run_written}

pub record IsPut (w : World) (t : Tables) (new : World) : Type 0 where
  pub is : with_tables w t ≡ new
  pub valid : IsValid (with_tables w t)

-- tables with the rows of a run are those of the world with the run, which is valid
pub run_put : (w : World) (t : Tables) (run : RunState) (turns lent : ℤ) (changed : Changed) → IsValid w → AreLongFor run.entities run.columns → CanPutRun w run turns changed
    → lent ≡ turns → t ≡ with_rows w.tables run.mask (rows_with_rows (rows_at w.tables run.mask) (rows_after run lent changed)) → IsPut w t (with_run w run turns changed)
run_put w t run turns lent changed v long can same e =
    let k = run_written w run turns changed v long can in
    let is = ap (with_tables w) (e ∙ ap (λ n. with_rows w.tables run.mask (rows_with_rows (rows_at w.tables run.mask) (rows_after run n changed))) same) ∙ sym k.is in
    record { is = is; valid = subst IsValid (sym is) k.valid }
