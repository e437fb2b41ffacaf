use Rattle.scene_json_forms.proofs.ListsWritten.{accepted}
use Rattle.scene_interpreter.proofs.JsonLaws.{bad_is, three}
use Rattle.scene_shell.proofs.request_line.write_bad_whole.Goals as goal

pub returns : goal.returns
returns c = accepted c.push_str-2.result _ _ _ c.push_str-2.ensures.bytes (λ last. three _ _ _ _ _ _ _ _
    (bad_is c.args.words.now) c.in_ok-push_str.ensures.bytes c.in_ok-write_json_text.ensures last)
