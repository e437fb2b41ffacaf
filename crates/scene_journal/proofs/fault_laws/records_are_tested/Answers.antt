use Rattle.scene_journal.proofs.FoundFaults.{record_faults_are_found, records_are_tested}
use Rattle.scene_journal.proofs.fault_laws.records_are_tested.Goals as goal

pub returns-clause-tested : goal.returns-clause-tested
returns-clause-tested c = records_are_tested

pub returns-clause-found : goal.returns-clause-found
returns-clause-found c = record_faults_are_found
