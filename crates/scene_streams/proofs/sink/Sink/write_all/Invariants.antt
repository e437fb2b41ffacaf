use Rattle.std.proofs.Common.{◌≡◌, false, length, ◌-◌, ◌≤◌, take}
use Rattle.std.specs.Io.KnownBytes.{Appends}
use Rattle.scene_streams.proofs.sink.Sink.write_all.Given as goal

abbrev pub invariant-loop-written : goal.invariant-loop-written
invariant-loop-written g l = record {
  within : l.written ≤ length l.bytes;
  unmarked : l.self.has_failed ≡ false;
  front : Appends (g.W.Write.contents l.initial.self.writer) (g.W.Write.contents l.self.writer) (take l.written l.bytes);
}

abbrev pub decreases-loop-written : goal.decreases-loop-written
decreases-loop-written g l = length l.bytes - l.written
