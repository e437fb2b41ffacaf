use Rattle.scene_model.proofs.RunCells.{runs_are_cells, runs_keep}
use Rattle.scene_model.proofs.StandingRuns.{standing_runs_can_be_put}
use Rattle.scene_model.proofs.raw_laws.runs_are_cells.Goals as goal

pub returns : goal.returns
returns c = record { cells = runs_are_cells; keeps = runs_keep; standing = standing_runs_can_be_put }
