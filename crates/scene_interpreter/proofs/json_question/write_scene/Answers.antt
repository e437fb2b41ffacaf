use Rattle.std.proofs.Common.{ap, ◌∙◌, ◌++◌, string_bytes}
use Rattle.serde_json.specs.Written.{compact_text}
use Rattle.scene_json_forms.proofs.ListsWritten.{accepted}
use Rattle.scene_interpreter.proofs.JsonLaws.{scene_is, three}
use Rattle.scene_interpreter.proofs.json_question.write_scene.Goals as goal

pub returns : goal.returns
returns c = accepted c.push_str-3.result _ _ _ c.push_str-3.ensures.bytes (λ last d is. three _ _ _ _ _ _ _ _ (scene_is d)
    c.in_ok-push_str.ensures.bytes
    (c.in_ok-push_str-2.ensures.bytes ∙ ap (λ t. string_bytes c.push_str.new.self ++ t) (c.without_break.ensures (compact_text d) is)) last)
