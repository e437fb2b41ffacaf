use Rattle.std.proofs.Common.{◌∙◌, ap, sym, map, Some, ℕ}
use Rattle.scene_table.proofs.RunFacts.{changed_lent, if_ok_less}
use Rattle.scene_table.proofs.written.changed_of_kind.Goals as goal

pub returns-in-Some : goal.returns-in-Some
returns-in-Some c =
    let rows = c.args.table.now.rows in
    let lent = c.in-Some.lent in
    let is = changed_lent rows c.args.kind lent.values.now lent.added.now lent.changed.now c.in-Some.ensures.cells c.in-Some.ensures.lists.0 c.in-Some.ensures.lists.1 in
    if_ok_less c.copied_ticks.result _ _ (λ ticks same. is ∙ ap (map (λ (tick : ℕ). Some tick)) (sym same)) c.copied_ticks.ensures
