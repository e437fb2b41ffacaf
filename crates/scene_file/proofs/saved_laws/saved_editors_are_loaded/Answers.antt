use Rattle.scene_file.proofs.SavedBack.{editor_loaded, world_editor_loaded, same_editor_saves}
use Rattle.scene_file.proofs.saved_laws.saved_editors_are_loaded.Goals as goal

pub returns : goal.returns
returns c = record {
  records = λ depth w past future f. editor_loaded depth w past future f;
  world = λ depth w v. world_editor_loaded depth w v;
  apart = λ v w past future older later f g e. same_editor_saves v w past future older later f g e;
}
