use Rattle.std.proofs.Common.{◌≡◌, ◌≤◌, length, take}
use Rattle.scene_deltas.specs.Deltas.{back_all, AllFitBack}
use Rattle.scene_deltas.specs.Segments.{turn_deltas}
use Rattle.scene_deltas.proofs.turn.take_cells_back.Given as goal

abbrev pub invariant-loop-left : goal.invariant-loop-left
invariant-loop-left l = record {
  low : l.left ≤ length (turn_deltas l.written);
  fit : AllFitBack (take l.left (turn_deltas l.written)) l.world.world;
  rest : back_all (take l.left (turn_deltas l.written)) l.world.world ≡ back_all (turn_deltas l.written) l.initial.world.world;
  room : l.world.room ≡ l.initial.world.room;
}

abbrev pub decreases-loop-left : goal.decreases-loop-left
decreases-loop-left l = l.left
