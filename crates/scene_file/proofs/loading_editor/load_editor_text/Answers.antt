use Rattle.scene_json_forms.proofs.Walking.{read_is}
use Rattle.scene_file.proofs.EditorExact.{if_editor_text}
use Rattle.scene_file.proofs.loading_editor.load_editor_text.Goals as goal

pub returns-clause-value : goal.returns-clause-value
returns-clause-value c = if_editor_text c.args.depth c.args.text.now c.editor_in.result (read_is (λ e. e) c.editor_in.result _ c.editor_in.ensures)
