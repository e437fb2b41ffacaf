use Rattle.std.proofs.Common.{rules, string_bytes}
use Rattle.scene_json_forms.proofs.ListsWritten.{accepted, as_text, chain}
use Rattle.scene_json_forms.proofs.Quoted.{entity_quoted}
use Rattle.scene_json_forms.proofs.write_values.write_entity.Goals as goal

pub returns : goal.returns
returns c = accepted c.push_str-2.result _ _ _ c.push_str-2.ensures.bytes (λ last.
    as_text (string_bytes c.args.out.now) _ _ _ (entity_quoted c.args.entity (search (rules, c.well_formed)) (search (rules, c.well_formed)))
    (chain (string_bytes c.args.out.now) _ _ _ _ c.in_ok-push_str.ensures.bytes
    (chain (string_bytes c.push_str.new.self) _ _ _ _ c.in_ok-write_entity_text.ensures last)))
