use Rattle.std.proofs.Common.{◌++◌, drop, ap, sym, ◌∙◌, arith}
use Rattle.scene_schedule.specs.Systems.{row_steps}
use Rattle.scene_schedule.proofs.QueueWalks.{pushed_on, row_steps_step, row_steps_so_far}
use Rattle.scene_schedule.proofs.systems.row_steps.Goals as goal

pub steps-preserved : goal.steps-preserved
steps-preserved c =
    let old = c.steps.list.items in
    record {
      all = pushed_on old _ _ _ _ c.in_ok-push_row.ensures.pushed
          (ap (λ ss. old ++ ss) (sym (row_steps_step c.args.steps.now c.steps.at c.index-steps-at.result (omega (arith, c.steps-test.true)) c.index-steps-at.is)) ∙ c.steps.invariant.all);
      range = c.in_ok-push_row.ensures.range c.steps.invariant.range;
    }

pub returns-clause-few : goal.returns-clause-few
returns-clause-few c = row_steps_so_far c.steps.list.items (row_steps (drop c.steps.at c.args.steps.now)) c.args.steps.now c.steps.invariant.all
