use Rattle.std.proofs.Common.{rules, arith}
use Rattle.scene_streams.proofs.Writes.{write_more, write_kept, front_written}
use Rattle.scene_streams.proofs.sink.Sink.write_all.Goals as goal

pub returns-in_err-written-clause-prefix : goal.returns-in_err-written-clause-prefix
returns-in_err-written-clause-prefix g c =
    let prefix = front_written _ _ c.loop-written.written _ (write_kept _ _ _ c.loop-written.written _ c.loop-written.invariant.front c.in_err-written.ensures.err) in
    search (rules, prefix)

pub loop-written-preserved : goal.loop-written-preserved
loop-written-preserved g c = record {
  within = grind (arith, c.in_ok-written.ensures.bound);
  unmarked = c.in_ok-written.ensures.unmarked;
  front = write_more _ _ _ c.loop-written.written c.in_ok-written.field-0 _ c.loop-written.invariant.front c.in_ok-written.ensures.ok;
}
