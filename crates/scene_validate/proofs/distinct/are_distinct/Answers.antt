use Rattle.std.proofs.Common.{rules}
use Rattle.scene_validate.proofs.Distinctness.{seen_more, seen_stops}
use Rattle.scene_validate.proofs.distinct.are_distinct.Goals as goal

pub returns-then-not-branch : goal.returns-then-not-branch
returns-then-not-branch g c =
    seen_stops g.K.Ord.cmp g.met.K.Ord.total c.args.keys.now c.loop-key.key-index c.key-item.result c.loop-key.seen c.in_ok-insert.field-0
    c.loop-key.invariant c.loop-key-test.true c.key-item.is c.in_ok-insert.ensures.added (search rules)

pub loop-key-preserved : goal.loop-key-preserved
loop-key-preserved g c =
    seen_more g.K.Ord.cmp g.met.K.Ord.total c.args.keys.now c.loop-key.key-index c.key-item.result c.loop-key.seen c.insert.new.self c.in_ok-insert.field-0
    c.loop-key.invariant c.loop-key-test.true c.key-item.is c.in_ok-insert.ensures.added (search rules) c.in_ok-insert.ensures.updates.0
