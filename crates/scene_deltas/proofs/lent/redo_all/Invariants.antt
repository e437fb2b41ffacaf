use Rattle.std.proofs.Common.{◌≡◌, drop, reverse}
use Rattle.std.specs.List.{filter}
use Rattle.scene_deltas.specs.Copies.{copies_again}
use Rattle.scene_deltas.specs.Deltas.{fwd_all}
use Rattle.scene_deltas.specs.Ready.{AreReadyOn}
use Rattle.scene_deltas.specs.Segments.{flat}
use Rattle.scene_deltas.proofs.lent.redo_all.Given as goal

abbrev pub invariant-loop-segment : goal.invariant-loop-segment
invariant-loop-segment l = record {
  ready : AreReadyOn l.world.room (flat (drop l.segment-index l.segments)) l.world.world;
  rest : fwd_all (flat (drop l.segment-index l.segments)) l.world.world ≡ fwd_all l.deltas.items l.initial.world.world;
  room : l.world.room ≡ l.initial.world.room;
  copies : l.copies.items ≡ reverse (filter copies_again (flat (drop l.segment-index l.segments)));
}
