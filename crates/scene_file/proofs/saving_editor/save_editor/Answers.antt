use Rattle.scene_file.proofs.SavedBack.{own_editor_loaded}
use Rattle.scene_file.proofs.saving_editor.save_editor.Goals as goal

pub returns-clause-loads : goal.returns-clause-loads
returns-clause-loads g c = λ depth. own_editor_loaded depth c.args.editor.now c.records_fit.ensures
