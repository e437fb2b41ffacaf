use Rattle.scene_journal.proofs.FoundFaults.{first_faults_are_found}
use Rattle.scene_journal.proofs.fault_laws.first_faults_are_found.Goals as goal

pub returns : goal.returns
returns c = first_faults_are_found
