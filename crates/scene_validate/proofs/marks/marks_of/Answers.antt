use Rattle.std.proofs.Common.{refl, get_or, rules}
use Rattle.scene_validate.proofs.Marking.{front_more, front_stops}
use Rattle.scene_validate.proofs.marks.marks_of.Goals as goal

pub returns-then-not-mark-clause-some : goal.returns-then-not-mark-clause-some
returns-then-not-mark-clause-some c =
    front_stops c.args.count c.args.indices.now c.loop-index.index-index (get_or c.args.indices.now c.loop-index.index-index 0) c.loop-index.marks.items c.mark.result
    c.loop-index.invariant c.loop-index-test.true refl c.mark.ensures.done (search rules)

pub loop-index-preserved : goal.loop-index-preserved
loop-index-preserved c =
    front_more c.args.count c.args.indices.now c.loop-index.index-index (get_or c.args.indices.now c.loop-index.index-index 0) c.loop-index.marks.items c.mark.new.marks.items c.mark.result
    c.loop-index.invariant c.loop-index-test.true refl c.mark.ensures.done c.mark.ensures.after (search rules)
