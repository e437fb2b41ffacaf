use Rattle.scene_file_records.proofs.RecordsBack.{records_back}
use Rattle.scene_file_records.proofs.laws.written_records_are_read_again.Goals as goal

pub returns : goal.returns
returns c = λ schema rs w path. records_back schema rs w path
