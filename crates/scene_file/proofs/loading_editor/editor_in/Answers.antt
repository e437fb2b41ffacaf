use Rattle.std.proofs.Common.{subst, sym}
use Rattle.scene_json_forms.specs.Outcome.{Reads}
use Rattle.scene_file.specs.SeenEditor.{saved_seen}
use Rattle.scene_file.proofs.RecordFaults.{text_said}
use Rattle.scene_file.proofs.loading_editor.editor_in.Goals as goal

pub returns : goal.returns
returns c = subst (Reads c.editor_of.result) (sym (text_said c.args.depth c.args.text.now (saved_seen c.in_ok-saved.saved) c.in_ok-saved.ensures))
    c.editor_of.ensures
