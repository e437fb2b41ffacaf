use Rattle.std.proofs.Common.{List, ap, ◌∙◌, rules, string_bytes}
use Rattle.std.specs.List.{filter}
use Rattle.std.proofs.lemmas.Fn.{filter_same}
use Rattle.serde_json.specs.Written.{compact_text}
use Rattle.scene_kinds.specs.KindSet.{KindSet}
use Rattle.scene_systems.specs.Filter.{is_match}
use Rattle.scene_json_forms.specs.Text.{list_text}
use Rattle.scene_json_forms.proofs.ListsWritten.{seen_as, so}
use Rattle.scene_print.specs.JsonAsked.{table_head}
use Rattle.scene_print.proofs.json_asked.write_matching_heads.Goals as goal

pub returns : goal.returns
returns c =
    so c.write_table_heads.result c.write_table_heads.ensures (λ wrote.
    seen_as (λ (masks : List KindSet). compact_text (list_text (table_head c.args.world.now.world) masks)) (string_bytes c.args.out.now) _ wrote
    (c.as_slice.ensures.value ∙ filter_same _ (is_match c.args.filter) _ (λ x b f' k. search rules) _ _ c.retain.ensures.filtered
    ∙ ap (filter (is_match c.args.filter)) c.in_ok-masks.ensures))
