use Rattle.scene_journal.proofs.Records.{records_come_back}
use Rattle.scene_journal.proofs.laws.records_come_back.Goals as goal

pub returns : goal.returns
returns c = records_come_back
