use Rattle.std.proofs.Common.{◌∙◌, ◌≡◌, rules, true}
use Rattle.scene_kept_lines.proofs.Scans.{ended_notes, ended_text}
use Rattle.scene_kept_lines.proofs.checkpoint_text.with_end.Goals as goal

pub returns-then-branch-clause-notes : goal.returns-then-branch-clause-notes
returns-then-branch-clause-notes c =
    let is : c.in_ok-push_comment.field-0 ≡ true = search rules in
    ended_notes c.args.comments.text.items c.push_comment.new.text.items c.as_bytes.result.now c.requires (c.in_ok-push_comment.ensures is)

pub returns-then-branch-clause-text : goal.returns-then-branch-clause-text
returns-then-branch-clause-text c =
    let is : c.in_ok-push_comment.field-0 ≡ true = search rules in
    ended_text c.args.comments.text.items c.push_comment.new.text.items c.as_bytes.result.now c.args.comments.count c.args.progress c.requires
    (c.as_bytes.ensures.value ∙ c.in_ok-end.ensures) (c.in_ok-push_comment.ensures is)
