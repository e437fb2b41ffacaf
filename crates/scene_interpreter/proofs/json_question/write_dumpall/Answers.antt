use Rattle.std.proofs.Common.{◌∙◌, ◌++◌, ap, sym, reverse, string_bytes}
use Rattle.serde_json.specs.Written.{compact_text}
use Rattle.scene_file.specs.EditorText.{editor_saved, editor_text}
use Rattle.scene_json_forms.proofs.ListsWritten.{so}
use Rattle.scene_session.specs.Whole.{whole_of}
use Rattle.scene_interpreter.specs.JsonQuestion.{saved_json}
use Rattle.scene_interpreter.proofs.JsonLaws.{short_is}
use Rattle.scene_interpreter.proofs.json_question.write_dumpall.Goals as goal

pub write_scene-requires : goal.write_scene-requires
write_scene-requires c =
    let w = whole_of c.args.editor.now in (
      editor_text w.machine.now (reverse w.past) w.future,
      c.as_str.ensures.value ∙ short_is (editor_saved w.machine.now (reverse w.past) w.future) (string_bytes c.in-Ok.text) c.in-Ok.ensures.text,
    )

pub returns-in-Ok : goal.returns-in-Ok
returns-in-Ok c =
    let w = whole_of c.args.editor.now in
    let d = editor_text w.machine.now (reverse w.past) w.future in
    so c.write_scene.result c.write_scene.ensures (λ wrote.
    wrote d (c.as_str.ensures.value ∙ short_is (editor_saved w.machine.now (reverse w.past) w.future) (string_bytes c.in-Ok.text) c.in-Ok.ensures.text)
    ∙ ap (λ r. string_bytes c.args.out.now ++ compact_text (saved_json d r)) (sym c.in-Ok.ensures.text))
