use Rattle.std.proofs.Common.{◌≡◌, ◌≤◌, ◌<◌, false, length, vec_len}
use Rattle.std.specs.Io.KnownBytes.{Consumes}
use Rattle.scene_streams.specs.Limits.{most_bytes}
use Rattle.scene_streams.proofs.source.Source.read_all.Given as goal

abbrev pub invariant-turns : goal.invariant-turns
invariant-turns g l = record {
  within : vec_len l.bytes ≤ most_bytes;
  place : 0 < length l.chunk;
  unmarked : l.self.has_failed ≡ false;
  spent : l.self.turns ≤ l.initial.self.turns;
  given : Consumes (g.R.Read.remaining l.initial.self.reader) (g.R.Read.remaining l.self.reader) l.bytes.items;
}

abbrev pub decreases-turns : goal.decreases-turns
decreases-turns g l = l.self.turns
