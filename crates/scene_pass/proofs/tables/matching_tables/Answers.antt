use Rattle.std.proofs.Common.{ap, ◌∙◌, rules}
use Rattle.std.specs.List.{flat_map}
use Rattle.std.proofs.lemmas.Fn.{filter_same}
use Rattle.scene_systems.specs.Filter.{is_match}
use Rattle.scene_pass.proofs.KeptTables.{rows_of_matching}
use Rattle.scene_pass.proofs.tables.matching_tables.Goals as goal

pub returns : goal.returns
returns c =
    ap (flat_map (λ t. t.now.rows)) (filter_same _ (λ t. is_match c.args.filter t.now.mask) _ (λ x b f' k. search rules) _ _ c.retain.ensures.filtered)
    ∙ rows_of_matching c.args.world.now.world c.args.filter c.in_ok-tables.tables.items _ c.in_ok-tables.ensures.masks c.in_ok-tables.ensures.rows
