use Rattle.std.proofs.Common.{string_bytes}
use Rattle.scene_json_forms.proofs.ListsWritten.{accepted, as_text, chain}
use Rattle.scene_print.proofs.JsonObjects.{refused_is}
use Rattle.scene_print.proofs.json_refused.write_json_refused.Goals as goal

pub returns : goal.returns
returns c = accepted c.push_str.result _ _ _ c.push_str.ensures.bytes (λ last.
    as_text (string_bytes c.args.out.now) _ _ _ (refused_is c.args.refusal)
    (chain (string_bytes c.args.out.now) _ _ _ _ c.in_ok-write_head.ensures
    (chain (string_bytes c.write_head.new.out) _ _ _ _ c.in_ok-write_fields.ensures
    (chain (string_bytes c.write_fields.new.out) _ _ _ _ c.in_ok-write_place.ensures last))))
