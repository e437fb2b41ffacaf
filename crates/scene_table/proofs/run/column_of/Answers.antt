use Rattle.std.proofs.Common.{◌≡◌, ◌∙◌, ap, sym, subst, map, Some, ℕ, pos}
use Rattle.std.specs.Prelude.{IfSome}
use Rattle.scene_kinds.specs.declared.value.Value.{Value}
use Rattle.scene_table.specs.declared.series.Series.{Series}
use Rattle.scene_table.specs.Runs.{AreInRange, HaveAddends, added_kind, grown, values_in}
use Rattle.scene_table.proofs.RunFacts.{added_lent, values_lent}
use Rattle.scene_table.proofs.run.column_of.Goals as goal

pub series_of-requires-clause-values : goal.series_of-requires-clause-values
series_of-requires-clause-values c =
    let rows = c.args.table.now.rows in
    let lent = c.in-Some.lent in
    ap (values_in rows) (sym c.target-kind.ensures)
    ∙ values_lent rows c.target-kind.result lent.values.now lent.added.now lent.changed.now c.in-Some.ensures.cells c.in-Some.ensures.lists.0 c.in-Some.ensures.lists.1

pub returns-clause-is : goal.returns-clause-is
returns-clause-is c =
    let rows = c.args.table.now.rows in
    let lent = c.in-Some.lent in
    let made = c.in-Some-2.series in
    record {
      has = c.in-Some.ensures.some;
      stands = record {
        values = values_lent rows c.target-kind.result lent.values.now lent.added.now lent.changed.now c.in-Some.ensures.cells c.in-Some.ensures.lists.0 c.in-Some.ensures.lists.1
            ∙ ap (map (λ (v : Value). Some v)) (sym (subst (λ o. IfSome o (λ (s : Series). grown s (pos 0) ≡ lent.values.now)) c.in-Some-2.is c.in_ok-series.ensures.before));
        added = added_lent rows c.target-kind.result lent.values.now lent.added.now lent.changed.now c.in-Some.ensures.cells c.in-Some.ensures.lists.0 c.in-Some.ensures.lists.1
            ∙ ap (map (λ (tick : ℕ). Some tick)) (sym c.in_ok-copied_ticks.ensures);
        addends = subst (λ b. HaveAddends rows b made) (sym c.added_kind.ensures) (subst (λ o. IfSome o (HaveAddends rows (added_kind c.args.step))) c.in-Some-2.is c.in_ok-series.ensures.addends);
      };
      bound = c.of-reach.ensures;
      fits = subst (λ o. IfSome o (λ (s : Series). AreInRange (grown s (pos 1)))) c.in-Some-2.is c.in_ok-series.ensures.fits;
    }
