use Rattle.std.proofs.Common.{string_bytes}
use Rattle.scene_json_forms.proofs.ListsWritten.{accepted, as_text, chain}
use Rattle.scene_print.proofs.JsonAsked.{resources_is}
use Rattle.scene_print.proofs.json_asked.write_json_resources.Goals as goal

pub returns : goal.returns
returns c = accepted c.push_str-2.result _ _ _ c.push_str-2.ensures.bytes (λ last.
    as_text (string_bytes c.args.out.now) _ _ _ (resources_is c.args.resources.now.cells)
    (chain (string_bytes c.args.out.now) _ _ _ _ c.in_ok-push_str.ensures.bytes
    (chain (string_bytes c.push_str.new.self) _ _ _ _ c.in_ok-write_resources.ensures last)))
