use Rattle.std.proofs.Common.{◌∙◌, ap, sym, get_or, nat_eq, nat_lt, take}
use Rattle.std.specs.Prelude.{◌||◌, ◌&&◌}
use Rattle.std.proofs.lemmas.Option.{slice_get-get_or}
use Rattle.scene_table.specs.declared.row_step.RowStep.{RowStep}
use Rattle.scene_table.specs.declared.row_step.RowStep.TheVariants.{AddVec}
use Rattle.scene_table.specs.RowStep.{is_written, target}
use Rattle.scene_table.proofs.ApartSteps.{any_more, kinds_more}
use Rattle.scene_table.proofs.run.written_by.Goals as goal

pub loop-step-preserved : goal.loop-step-preserved
loop-step-preserved c k =
    let steps = c.args.steps.now in
    let at = c.loop-step.step-index in
    let step = get_or steps at (AddVec 0 0) in
    c.with_kind-kinds.ensures k
    ∙ (λ i. c.loop-step.invariant k i || (nat_eq (c.target.ensures i) k && nat_lt k 64))
    ∙ kinds_more (is_written (take at steps) k) (nat_eq (target step) k) (nat_lt k 64)
    ∙ ap (λ b. b && nat_lt k 64) (sym (any_more (λ (s : RowStep). nat_eq (target s) k) steps at step (slice_get-get_or steps at (AddVec 0 0) c.loop-step-test.true)))
