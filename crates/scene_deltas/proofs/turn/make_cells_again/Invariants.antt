use Rattle.std.proofs.Common.{◌≡◌, drop}
use Rattle.scene_deltas.specs.Deltas.{fwd_all, AllFitOn}
use Rattle.scene_deltas.specs.Segments.{turn_deltas}
use Rattle.scene_deltas.proofs.turn.make_cells_again.Given as goal

abbrev pub invariant-loop-number : goal.invariant-loop-number
invariant-loop-number l = record {
  fit : AllFitOn (drop l.number (turn_deltas l.written)) l.world.world;
  rest : fwd_all (drop l.number (turn_deltas l.written)) l.world.world ≡ fwd_all (turn_deltas l.written) l.initial.world.world;
  room : l.world.room ≡ l.initial.world.room;
}
