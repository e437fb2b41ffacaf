use Rattle.std.proofs.Common.{ap, ◌∙◌, map, rules}
use Rattle.std.proofs.lemmas.Fn.{filter_same}
use Rattle.scene_systems.specs.Filter.{is_match}
use Rattle.scene_c.specs.Shown.{table_of}
use Rattle.scene_c.proofs.ReadRows.{tables_matching}
use Rattle.scene_c.proofs.columns.matching_tables.Goals as goal

pub returns : goal.returns
returns c =
    ap (map (λ t. table_of t.now)) (filter_same _ (λ t. is_match c.args.filter t.now.mask) _ (λ x b f' k. search rules) _ _ c.retain.ensures.filtered)
    ∙ tables_matching c.args.world.now.world c.args.filter c.in_ok-tables.tables.items _ c.in_ok-tables.ensures.masks c.in_ok-tables.ensures.rows
