use Rattle.std.proofs.Common.{◌≡◌, ◌<◌, ◌+◌, ◌∙◌, arith, List, ap, sym, subst, length, get_or, Option, ℕ, ◌++◌, ◌∷◌, []}
use Rattle.std.specs.Prelude.{IfSome, IfNone}
use Rattle.std.proofs.lemmas.Option.{slice_get-get_or}
use Rattle.std.proofs.lemmas.List.Elements.{All-push}
use Rattle.scene_table.specs.declared.row_step.RowStep.TheVariants.{AddVec}
use Rattle.scene_table.specs.declared.run.RunColumn.{RunColumn}
use Rattle.scene_table.specs.Runs.{IsColumnOf, IsFirstColumn, Overflows}
use Rattle.scene_table.proofs.ColumnsOfSteps.{AreColumnsUpTo, column_more, column_none, columns_all, no_columns}
use Rattle.scene_table.proofs.run.columns_of.Goals as goal
use Rattle.scene_table.proofs.run.columns_of.Goals.{in-Some+in_ok-column+in-Some-2+in_ok-push, in_default}

pub returns-in_default-2-clause-unfit : goal.returns-in_default-2-clause-unfit
returns-in_default-2-clause-unfit c =
    let steps = c.args.steps.now in
    let step = get_or steps c.in-Some.at (AddVec 0 0) in (
      c.in-Some.at,
      (
        step,
        (
          slice_get-get_or steps c.in-Some.at (AddVec 0 0) c.in-Some.ensures.within,
          subst (λ (o : Option RunColumn). IfNone o (Overflows c.args.table.now.rows step)) c.in_default-2.is c.in_ok-column.ensures.unfit,
        ),
      ),
    )

pub loop-kind-preserved : goal.loop-kind-preserved
loop-kind-preserved c = elim c.match-step_of.branch [
  | in-Some+in_ok-column+in-Some-2+in_ok-push w ↦
      let e : c.match-step_of.columns.items ≡ c.loop-kind.columns.items ++ w.in-Some-2.column ∷ [] = ap (λ v. v.items) w.columns-is ∙ w.in_ok-push.ensures.items in
      record {
        first = subst (λ (xs : List RunColumn). (k : ℕ) (d : RunColumn) → k < length xs → IsFirstColumn c.args.table.now (get_or xs k d)) (sym e)
            (All-push (IsFirstColumn c.args.table.now) c.loop-kind.columns.items w.in-Some-2.column c.loop-kind.invariant.first
            (subst (λ (o : Option RunColumn). IfSome o (IsFirstColumn c.args.table.now)) w.in-Some-2.is w.in_ok-column.ensures.is));
        so_far = subst (λ (xs : List RunColumn). AreColumnsUpTo c.args.steps.now xs (c.loop-kind.kind + 1)) (sym e)
            (column_more c.args.steps.now c.loop-kind.columns.items c.loop-kind.kind c.loop-kind.invariant.so_far w.in-Some.at (get_or c.args.steps.now w.in-Some.at (AddVec 0 0)) w.in-Some-2.column c.requires.apart
            (sym w.in-Some.ensures.is) (slice_get-get_or c.args.steps.now w.in-Some.at (AddVec 0 0) w.in-Some.ensures.within)
            (subst (λ (o : Option RunColumn). IfSome o (IsColumnOf (get_or c.args.steps.now w.in-Some.at (AddVec 0 0)))) w.in-Some-2.is w.in_ok-column.ensures.of));
      }
  | in_default w ↦
      let e : c.match-step_of.columns.items ≡ c.loop-kind.columns.items = ap (λ v. v.items) w.columns-is in
      record {
        first = subst (λ (xs : List RunColumn). (k : ℕ) (d : RunColumn) → k < length xs → IsFirstColumn c.args.table.now (get_or xs k d)) (sym e) c.loop-kind.invariant.first;
        so_far = subst (λ (xs : List RunColumn). AreColumnsUpTo c.args.steps.now xs (c.loop-kind.kind + 1)) (sym e) (column_none c.args.steps.now c.loop-kind.columns.items c.loop-kind.kind c.loop-kind.invariant.so_far (sym w.in_default.ensures.is));
      }
]

pub returns-clause-of : goal.returns-clause-of
returns-clause-of c = columns_all c.args.table.now c.args.steps.now c.loop-kind.columns.items c.loop-kind.kind c.loop-kind.invariant.so_far c.loop-kind-test.false c.requires.kinds c.requires.can

pub loop-kind-init : goal.loop-kind-init
loop-kind-init c = record {
  first = λ k d l. absurd (omega (arith, ap length c.new-columns.ensures.items));
  so_far = no_columns c.args.steps.now c.new-columns.result.items c.new-columns.ensures.items;
}
