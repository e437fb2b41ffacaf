use Rattle.std.proofs.Common.{string_bytes}
use Rattle.scene_json_forms.proofs.ListsWritten.{accepted, chain}
use Rattle.scene_print.proofs.json_rows.write_row_behind.Goals as goal

pub returns : goal.returns
returns c = accepted c.push_str-2.result _ _ _ c.push_str-2.ensures.bytes (λ last row there.
    chain (string_bytes c.args.out.now) _ _ _ _ c.in_ok-push_str.ensures.bytes
    (chain (string_bytes c.push_str.new.self) _ _ _ _ (c.in_ok-write_members.ensures row there) last))
