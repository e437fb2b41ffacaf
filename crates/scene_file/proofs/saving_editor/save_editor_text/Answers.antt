use Rattle.std.proofs.Common.{ap, ◌∙◌}
use Rattle.scene_file.specs.EditorScene.{loaded_editor}
use Rattle.scene_file.proofs.SavedBack.{own_editor_loaded}
use Rattle.scene_file.proofs.saving_editor.save_editor_text.Goals as goal

pub returns-clause-loads : goal.returns-clause-loads
returns-clause-loads c = λ depth. ap (loaded_editor depth) c.in_ok-text.ensures ∙ own_editor_loaded depth c.args.editor.now c.records_fit.ensures
