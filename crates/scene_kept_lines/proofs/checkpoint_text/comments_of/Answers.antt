use Rattle.std.proofs.Common.{◌∙◌, ◌≡◌, arith, rules, true}
use Rattle.scene_kept_lines.proofs.Scans.{marks_pushed}
use Rattle.scene_kept_lines.proofs.checkpoint_text.comments_of.Goals as goal

pub lines-preserved : goal.lines-preserved
lines-preserved c =
    let is : c.in_ok-push_comment.field-0 ≡ true = search rules in (
      marks_pushed c.args.fewer.now c.lines.text.items c.push_comment.new.text.items c.lines.rest.now c.first_line.result.1.now c.first_line.result.0.now
          c.as_slice.result.now c.lines.count c.lines.invariant.0 c.first_line.ensures.first (c.as_slice.ensures.value ∙ c.in_ok-comment.ensures)
          (c.in_ok-push_comment.ensures is),
      omega (arith, c.lines.invariant.1, c.first_line.ensures.shorter),
    )
