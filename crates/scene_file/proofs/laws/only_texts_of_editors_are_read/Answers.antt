use Rattle.scene_file.proofs.EditorExact.{only_editor_text}
use Rattle.scene_file.proofs.laws.only_texts_of_editors_are_read.Goals as goal

pub returns : goal.returns
returns c = λ depth bytes e h. only_editor_text depth bytes e h
