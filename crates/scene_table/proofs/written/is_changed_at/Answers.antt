use Rattle.std.proofs.Common.{◌∙◌, ap, sym, map, Some, ℕ}
use Rattle.std.specs.Prelude.{replicate}
use Rattle.scene_table.proofs.RunFacts.{changed_lent, same_count}
use Rattle.scene_table.proofs.written.is_changed_at.Goals as goal

pub returns-in-Some : goal.returns-in-Some
returns-in-Some c all =
    let rows = c.args.table.now.rows in
    let lent = c.in-Some.lent in
    let is = changed_lent rows c.args.kind lent.values.now lent.added.now lent.changed.now c.in-Some.ensures.cells c.in-Some.ensures.lists.0 c.in-Some.ensures.lists.1 in
    is ∙ ap (map (λ (tick : ℕ). Some tick)) (c.are_all.ensures all ∙ ap (λ n. replicate n c.args.tick) (sym (same_count _ (λ (tick : ℕ). Some tick) rows lent.changed.now is)))
