use Rattle.std.proofs.Common.{refl}
use Rattle.scene_journal.proofs.fault_examples.worked_faults_hold.Goals as goal

pub returns-clause-spawn : goal.returns-clause-spawn
returns-clause-spawn c = (refl, refl, refl, refl, refl, refl, refl)

pub returns-clause-chain : goal.returns-clause-chain
returns-clause-chain c = (refl, refl, refl, refl, refl)
