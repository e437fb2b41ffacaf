use Rattle.std.proofs.Common.{ap, ◌∙◌, rules}
use Rattle.std.specs.List.{filter}
use Rattle.std.proofs.lemmas.Fn.{filter_same}
use Rattle.scene_systems.specs.Filter.{is_match}
use Rattle.scene_schedule.proofs.in_turn.kind_sets_of.Goals as goal

pub returns-clause-sets : goal.returns-clause-sets
returns-clause-sets c =
    filter_same _ (is_match c.args.rule.now.filter) _ (λ x b f' k. search rules) _ _ c.retain.ensures.filtered
    ∙ ap (filter (is_match c.args.rule.now.filter)) c.in_ok-sets.ensures
