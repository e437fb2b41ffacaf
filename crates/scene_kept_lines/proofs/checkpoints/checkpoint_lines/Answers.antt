use Rattle.std.proofs.Common.{◌-◌, arith, inl, inr, rules}
use Rattle.scene_kept_lines.proofs.Scans.{unmarks_all, unmarks_step}
use Rattle.scene_kept_lines.proofs.checkpoints.checkpoint_lines.Goals.{then-lines-test+else-not-is_empty, else-lines-test}
use Rattle.scene_kept_lines.proofs.checkpoints.checkpoint_lines.Goals as goal

pub lines-preserved : goal.lines-preserved
lines-preserved c =
    unmarks_step c.args.block.now c.args.count c.lines.text.items c.lines.rest.now c.first_line.result.1.now c.first_line.result.0.now c.lines.left (c.lines.left - 1)
    c.push_unmarked.new.text.items c.lines.invariant (omega (arith, c.lines-test.true)) c.first_line.ensures.first c.in_ok-push_unmarked.ensures

pub returns : goal.returns
returns c =
    unmarks_all c.args.block.now c.args.count c.lines.text.items c.lines.rest.now c.lines.left c.lines.invariant
    (elim c.lines-test.branch [
      | then-lines-test+else-not-is_empty w ↦ inr (search rules)
      | else-lines-test w ↦ inl (search rules)
    ])
