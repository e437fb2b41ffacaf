use Rattle.std.proofs.Common.{◌≡◌, length}
use Rattle.std.specs.List.{filter}
use Rattle.scene_deltas.specs.Copies.{copies_back}
use Rattle.scene_deltas.specs.Deltas.{back_all}
use Rattle.scene_deltas.specs.Ready.{AreReady}
use Rattle.scene_deltas.specs.Segments.{flat}
use Rattle.scene_deltas.proofs.lent.undo_all.Given as goal

abbrev pub invariant-left : goal.invariant-left
invariant-left l = record {
  ready : AreReady l.world.room (flat l.left) l.world.world;
  rest : back_all (flat l.left) l.world.world ≡ back_all l.fn.deltas.items l.initial.world.world;
  room : l.world.room ≡ l.initial.world.room;
  copies : l.copies.items ≡ filter copies_back (flat l.left);
}

abbrev pub decreases-left : goal.decreases-left
decreases-left l = length l.left
