use Rattle.std.proofs.Common.{◌≡◌, length}
use Rattle.scene_deltas.specs.DeltaList.{held_segments}
use Rattle.scene_deltas.specs.Deltas.{back_all}
use Rattle.scene_deltas.specs.Ready.{AreReady}
use Rattle.scene_deltas.specs.Segments.{flat}
use Rattle.scene_deltas.proofs.steps.take_all_back.Given as goal

abbrev pub invariant-left : goal.invariant-left
invariant-left l = record {
  ready : AreReady l.world.room (flat (held_segments l.left)) l.world.world;
  rest : back_all (flat (held_segments l.left)) l.world.world ≡ back_all l.fn.deltas.items l.initial.world.world;
  room : l.world.room ≡ l.initial.world.room;
}

abbrev pub decreases-left : goal.decreases-left
decreases-left l = length (held_segments l.left)
