use Rattle.scene_json_forms.proofs.ListsWritten.{accepted}
use Rattle.scene_interpreter.proofs.JsonLaws.{made_is, three}
use Rattle.scene_interpreter.proofs.json_answer.write_made.Goals as goal

pub returns : goal.returns
returns c = accepted c.push_str-2.result _ _ _ c.push_str-2.ensures.bytes (λ last. three _ _ _ _ _ _ _ _
    (made_is c.args.entities.now) c.in_ok-push_str.ensures.bytes c.in_ok-write_entities.ensures last)
