use Rattle.scene_json_forms.proofs.ListsWritten.{accepted, five}
use Rattle.scene_shell.proofs.BadTexts.{bad_at_is}
use Rattle.scene_shell.proofs.request_line.write_bad_at.Goals as goal

pub returns : goal.returns
returns c = accepted c.push_str-3.result _ _ _ c.push_str-3.ensures.bytes (λ last. five _ _ _ _ _ _ _ _ _ _ _ _
    (bad_at_is c.args.words.now c.args.path.now) c.in_ok-push_str.ensures.bytes c.in_ok-write_json_text.ensures
    c.in_ok-push_str-2.ensures.bytes c.in_ok-write_json_text-2.ensures last)
