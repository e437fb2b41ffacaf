use Rattle.scene_journal.proofs.SomeDeltas.{faults_are_faults}
use Rattle.scene_journal.proofs.faults.faults_are_faults.Goals as goal

pub returns : goal.returns
returns c = faults_are_faults
