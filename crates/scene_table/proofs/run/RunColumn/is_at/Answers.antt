use Rattle.std.proofs.Common.{◌∙◌, ap, sym, map, Some, ℕ, w64}
use Rattle.std.proofs.lemmas.Int.{to_z-of_z}
use Rattle.scene_kinds.specs.declared.value.Value.{Value}
use Rattle.scene_table.specs.Runs.{grown}
use Rattle.scene_table.proofs.RunFacts.{added_lent, values_lent}
use Rattle.scene_table.proofs.run.RunColumn.is_at.Goals as goal

pub returns : goal.returns
returns c same =
    let rows = c.args.table.now.rows in
    let kind = c.args.self.now.kind in
    let lent = c.in-Some.lent in
    record {
      values = values_lent rows kind lent.values.now lent.added.now lent.changed.now c.in-Some.ensures.cells c.in-Some.ensures.lists.0 c.in-Some.ensures.lists.1
          ∙ ap (map (λ (v : Value). Some v)) (c.is_at.ensures c.if-not-is_at.false ∙ ap (grown c.args.self.now.series) (to_z-of_z w64 c.args.turns c.ranges.turns));
      added = added_lent rows kind lent.values.now lent.added.now lent.changed.now c.in-Some.ensures.cells c.in-Some.ensures.lists.0 c.in-Some.ensures.lists.1
          ∙ ap (map (λ (tick : ℕ). Some tick)) (sym (c.same_ticks.ensures.0 c.if-not-same_ticks.false) ∙ c.as_slice.ensures.value);
      addends = c.has_addends.ensures same;
    }
