use Rattle.std.proofs.Common.{◌∙◌, ◌++◌, ap, sym, string_bytes}
use Rattle.serde_json.specs.Written.{compact_text}
use Rattle.scene_file.specs.Text.{saved, world_text}
use Rattle.scene_json_forms.proofs.ListsWritten.{so}
use Rattle.scene_interpreter.specs.JsonQuestion.{saved_json}
use Rattle.scene_interpreter.proofs.JsonLaws.{short_is}
use Rattle.scene_interpreter.proofs.json_question.write_dump.Goals as goal

pub write_scene-requires : goal.write_scene-requires
write_scene-requires c =
    let w = c.args.world.now.world in
    (world_text w, c.as_str.ensures.value ∙ short_is (saved w) (string_bytes c.in-Ok.text) c.in-Ok.ensures.text)

pub returns-in-Ok : goal.returns-in-Ok
returns-in-Ok c =
    let w = c.args.world.now.world in
    so c.write_scene.result c.write_scene.ensures (λ wrote. wrote (world_text w) (c.as_str.ensures.value ∙ short_is (saved w) (string_bytes c.in-Ok.text) c.in-Ok.ensures.text)
    ∙ ap (λ r. string_bytes c.args.out.now ++ compact_text (saved_json (world_text w) r)) (sym c.in-Ok.ensures.text))
