use Rattle.scene_file.proofs.EditorBack.{editor_back, world_editor_back}
use Rattle.scene_file.proofs.SavedBack.{same_editor_texts}
use Rattle.scene_file.proofs.saved_laws.editors_are_read_again.Goals as goal

pub returns : goal.returns
returns c = record {
  records = λ depth w past future f. editor_back depth w past future f;
  world = λ depth w v. world_editor_back depth w v;
  apart = λ v w past future older later f g e. same_editor_texts v w past future older later f g e;
}
