use Rattle.scene_store.proofs.StoreLemmas.{text_more}
use Rattle.scene_store.proofs.rows.text_of.Goals as goal

pub loop-at-preserved : goal.loop-at-preserved
loop-at-preserved c = text_more c.args.rows.now c.loop-at.at c.index-rows-at.result c.loop-at.lines.items c.add_row.new.lines.items c.loop-at-test.true c.index-rows-at.is c.loop-at.invariant c.in-Ok.ensures.added
