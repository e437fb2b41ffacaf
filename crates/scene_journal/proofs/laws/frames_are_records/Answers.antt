use Rattle.scene_journal.proofs.FrameLaws.{frames_are_records, frames_make_few}
use Rattle.scene_journal.proofs.laws.frames_are_records.Goals as goal

pub returns : goal.returns
returns c = record { leads = frames_are_records; few = frames_make_few }
