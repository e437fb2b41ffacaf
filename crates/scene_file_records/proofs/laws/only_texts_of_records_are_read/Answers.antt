use Rattle.scene_file_records.proofs.RecordsExact.{only_texts}
use Rattle.scene_file_records.proofs.laws.only_texts_of_records_are_read.Goals as goal

pub returns : goal.returns
returns c = λ schema path bytes d rs was h. only_texts schema path bytes d rs was h
