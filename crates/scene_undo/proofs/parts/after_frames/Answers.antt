use Rattle.std.proofs.Common.{rules}
use Rattle.scene_undo.proofs.parts.after_frames.Goals as goal

pub overflow_add-before : goal.overflow_add-before
overflow_add-before c =
    let low = c.requires c.in-BadRecord.frame c.in-BadRecord.delta c.in-BadRecord.is in
    search (low, rules)
