use Rattle.std.proofs.Common.{ap, sym, ◌∙◌, arith, Some, None}
use Rattle.std.specs.Prelude.{if◌then◌else◌}
use Rattle.scene_pass.specs.declared.row_change.Outcome.TheVariants.{Overflow}
use Rattle.scene_pass.proofs.WrittenValues.{outcome_in-drop}
use Rattle.scene_pass.proofs.change.outcome.Goals as goal

pub returns-then-not-branch : goal.returns-then-not-branch
returns-then-not-branch c =
    let step = c.in_ok-do_step.ensures ∙ ap (λ b. if b then Some c.do_step.new.written.items else None) c.if-not-branch.true in
    ap Overflow c.loop-step.invariant.number ∙ sym (c.loop-step.invariant.same ∙ outcome_in-drop _ _ _ _ _ _ c.loop-step-test.true step)

pub loop-step-preserved : goal.loop-step-preserved
loop-step-preserved c =
    let step = c.in_ok-do_step.ensures ∙ ap (λ b. if b then Some c.do_step.new.written.items else None) c.if-not-branch.false in record {
      number = omega arith;
      same = c.loop-step.invariant.same ∙ outcome_in-drop _ _ _ _ _ _ c.loop-step-test.true step;
    }
