use Rattle.std.proofs.Common.{ap, ◌∙◌, arith, length}
use Rattle.scene_links.specs.Forest.{children_of, cut}
use Rattle.scene_world.proofs.FewChildren.{last_low}
use Rattle.scene_journal.proofs.notes.last_link.Goals as goal

pub overflow_cast-result : goal.overflow_cast-result
overflow_cast-result c =
    let low = last_low c.args.world.now.world c.args.child c.args.parent c.tick-tick.ensures.valid in
    let is = c.count_without.ensures ∙ ap (λ f. length (children_of (cut f c.args.child) c.args.parent)) c.links.ensures in
    omega (arith, low, is)
