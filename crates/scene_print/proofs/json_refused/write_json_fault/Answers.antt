use Rattle.std.proofs.Common.{string_bytes}
use Rattle.scene_json_forms.proofs.ListsWritten.{accepted, as_text, chain}
use Rattle.scene_print.proofs.JsonObjects.{file_fault_is}
use Rattle.scene_print.proofs.json_refused.write_json_fault.Goals as goal

pub returns : goal.returns
returns c = accepted c.push_str.result _ _ _ c.push_str.ensures.bytes (λ last.
    as_text (string_bytes c.args.out.now) _ _ _ (file_fault_is c.args.fault.now)
    (chain (string_bytes c.args.out.now) _ _ _ _ c.in_ok-write_file_head.ensures
    (chain (string_bytes c.write_file_head.new.out) _ _ _ _ c.in_ok-write_file_fields.ensures last)))
