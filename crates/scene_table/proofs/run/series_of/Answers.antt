use Rattle.std.proofs.Common.{◌≡◌, ◌∙◌, List, ap, sym, subst, map, false, Some, ℕ, FitsSigned, w64, rules}
use Rattle.std.specs.Prelude.{IfOk, IfSome, IfNone}
use Rattle.std.specs.List.{list_all}
use Rattle.std.specs.Option.{is_some}
use Rattle.std.proofs.lemmas.Int.{to_z-of_z}
use Rattle.scene_kinds.specs.declared.value.Value.{Value}
use Rattle.scene_table.specs.declared.series.Series.{Series}
use Rattle.scene_table.specs.declared.series.Series.TheVariants.{Ints, Vecs}
use Rattle.scene_kinds.specs.declared.cells.Row.{Row}
use Rattle.scene_table.specs.RowStep.{target}
use Rattle.scene_table.specs.Runs.{CanStep, HaveAddends, IsVecsBy, Overflows, added_kind, int_sums, values_in}
use Rattle.scene_table.proofs.Overflows.{ints_overflow, vecs_overflow}
use Rattle.scene_table.proofs.RunFacts.{if_none_less, if_some_less, same_count, some_vectors, values_lent}
use Rattle.scene_table.proofs.run.series_of.Goals as goal

pub vec_series-requires-clause-long : goal.vec_series-requires-clause-long
vec_series-requires-clause-long c =
    let rows = c.args.table.now.rows in
    let lent = c.in-Some.lent in
    let is = values_lent rows c.in-AddVec.by lent.values.now lent.added.now lent.changed.now c.in-Some.ensures.cells c.in-Some.ensures.lists.0 c.in-Some.ensures.lists.1 in
    let can = subst (CanStep c.args.table.now) c.in-AddVec.is c.requires.can in
    let values = ap (λ s. values_in rows (target s)) (sym c.in-AddVec.is) ∙ c.requires.values in
    sym (same_count _ (λ (v : Value). Some v) rows lent.values.now is) ∙ same_count _ (λ (v : Value). Some v) rows c.args.values.now values

pub vec_series-requires-clause-addends : goal.vec_series-requires-clause-addends
vec_series-requires-clause-addends c =
    let rows = c.args.table.now.rows in
    let lent = c.in-Some.lent in
    let is = values_lent rows c.in-AddVec.by lent.values.now lent.added.now lent.changed.now c.in-Some.ensures.cells c.in-Some.ensures.lists.0 c.in-Some.ensures.lists.1 in
    let can = subst (CanStep c.args.table.now) c.in-AddVec.is c.requires.can in
    let values = ap (λ s. values_in rows (target s)) (sym c.in-AddVec.is) ∙ c.requires.values in
    can.3 lent.values.now is

pub returns-in-AddInt-clause-unfit : goal.returns-in-AddInt-clause-unfit
returns-in-AddInt-clause-unfit c =
    let by : FitsSigned w64 c.in-AddInt.by = search rules in
    let rows = c.args.table.now.rows in
    let values = ap (λ s. values_in rows (target s)) (sym c.in-AddInt.is) ∙ c.requires.values in
    subst (λ s. IfOk c.int_series.result (λ made. IfNone made (Overflows rows s))) (sym c.in-AddInt.is)
    (if_none_less c.int_series.result _ _ (λ fail. ints_overflow c.in-AddInt.to c.in-AddInt.by rows c.args.values.now values fail)
    (subst (λ b. IfOk c.int_series.result (λ made. IfNone made (list_all is_some (int_sums c.args.values.now b) ≡ false))) (to_z-of_z w64 c.in-AddInt.by by) c.int_series.ensures.unfit))

pub returns-in-Some-clause-addends : goal.returns-in-Some-clause-addends
returns-in-Some-clause-addends c =
    let rows = c.args.table.now.rows in
    let lent = c.in-Some.lent in
    let is = values_lent rows c.in-AddVec.by lent.values.now lent.added.now lent.changed.now c.in-Some.ensures.cells c.in-Some.ensures.lists.0 c.in-Some.ensures.lists.1 in
    let can = subst (CanStep c.args.table.now) c.in-AddVec.is c.requires.can in
    let values = ap (λ s. values_in rows (target s)) (sym c.in-AddVec.is) ∙ c.requires.values in
    subst (λ s. IfOk c.vec_series.result (λ made. IfSome made (HaveAddends rows (added_kind s)))) (sym c.in-AddVec.is)
    (if_some_less c.vec_series.result (IsVecsBy lent.values.now) (HaveAddends rows (Some c.in-AddVec.by)) (have rows c.in-AddVec.by lent.values.now is) c.vec_series.ensures.adds)
  where
    have : (rows : List Row) (by : ℕ) (values : List Value) → values_in rows by ≡ map (λ (v : Value). Some v) values → (s : Series) → IsVecsBy values s → HaveAddends rows (Some by) s
    have rows by values is (Ints base each) h = absurd h
    have rows by values is (Vecs base each) h = is ∙ ap (map (λ (v : Value). Some v)) h ∙ some_vectors each.items

pub returns-in-Some-clause-unfit : goal.returns-in-Some-clause-unfit
returns-in-Some-clause-unfit c =
    let rows = c.args.table.now.rows in
    let lent = c.in-Some.lent in
    let is = values_lent rows c.in-AddVec.by lent.values.now lent.added.now lent.changed.now c.in-Some.ensures.cells c.in-Some.ensures.lists.0 c.in-Some.ensures.lists.1 in
    let can = subst (CanStep c.args.table.now) c.in-AddVec.is c.requires.can in
    let values = ap (λ s. values_in rows (target s)) (sym c.in-AddVec.is) ∙ c.requires.values in
    subst (λ s. IfOk c.vec_series.result (λ made. IfNone made (Overflows rows s))) (sym c.in-AddVec.is)
    (if_none_less c.vec_series.result _ _ (λ fail. vecs_overflow c.in-AddVec.to c.in-AddVec.by rows c.args.values.now lent.values.now values is fail) c.vec_series.ensures.unfit)
