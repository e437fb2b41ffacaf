use Rattle.scene_table.proofs.CellWrites.{run_goes_on, turn_writes_steps}
use Rattle.scene_table.proofs.run_laws.run_goes_on.Goals as goal

pub returns-clause-goes : goal.returns-clause-goes
returns-clause-goes c = run_goes_on

pub returns-clause-writes : goal.returns-clause-writes
returns-clause-writes c = turn_writes_steps
