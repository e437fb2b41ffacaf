use Rattle.std.proofs.Common.{◌∙◌, subst, sym}
use Rattle.std.specs.Prelude.{All, IfSome, IfNone}
use Rattle.scene_table.specs.Runs.{AreColumnsFor, IsFirstColumn}
use Rattle.scene_table.proofs.StepsInOrder.{steps_overflow}
use Rattle.scene_table.specs.Runs.{OneOverflows}
use Rattle.scene_table.proofs.RunFacts.{run_of_columns}
use Rattle.scene_table.proofs.run.Run.new.Goals as goal

pub invariant_of-result : goal.invariant_of-result
invariant_of-result c =
    let are = subst (λ o. IfSome o (λ columns. All (IsFirstColumn c.args.table.now) columns.items)) c.in-Some.is c.in_ok-columns.ensures.are in
    let of = subst (λ o. IfSome o (λ columns. AreColumnsFor c.args.steps.now columns.items)) c.in-Some.is c.in_ok-columns.ensures.of in
    run_of_columns c.args.table.now c.in_ok-copied_steps.field-0.items c.in-Some.columns.items c.in_ok-entities.entities.items c.mask-mask.result c.mask-mask.ensures (c.in_ok-entities.ensures ∙ c.entities.ensures) (subst (λ steps. AreColumnsFor steps c.in-Some.columns.items) (sym c.in_ok-copied_steps.ensures) of) are

pub returns-in_default-clause-unfit : goal.returns-in_default-clause-unfit
returns-in_default-clause-unfit c =
    let one = subst (λ o. IfNone o (OneOverflows c.args.table.now.rows c.args.steps.now)) c.in_default.is c.in_ok-columns.ensures.unfit in
    steps_overflow c.args.steps.now c.args.table.now.rows c.requires.apart one
