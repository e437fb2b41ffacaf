use Rattle.std.proofs.Common.{ap, subst, sym, ◌∙◌}
use Rattle.scene_deltas.specs.DeltaList.{held_segments}
use Rattle.scene_deltas.specs.Deltas.{back_all}
use Rattle.scene_deltas.specs.Ready.{AreReady}
use Rattle.scene_deltas.specs.Segments.{flat, shown}
use Rattle.scene_deltas.proofs.SegmentSteps.{back_ready, back_rest}
use Rattle.scene_deltas.proofs.Segments.{flat_pushed}
use Rattle.scene_deltas.proofs.steps.take_all_back.Goals as goal

pub take_segment_back-requires : goal.take_segment_back-requires
take_segment_back-requires c =
    let left = held_segments c.pop.new.self in
    let cut = ap flat c.in-Some.ensures ∙ flat_pushed left c.in-Some.segment in
    (back_ready c.left.world.room c.left.world.world (flat (held_segments c.left.left)) (flat left) (shown c.in-Some.segment) cut c.left.invariant.ready).0

pub left-preserved : goal.left-preserved
left-preserved c =
    let room = c.left.world.room in
    let w = c.left.world.world in
    let left = held_segments c.pop.new.self in
    let own = shown c.in-Some.segment in
    let cut = ap flat c.in-Some.ensures ∙ flat_pushed left c.in-Some.segment in
    let ready = (back_ready room w (flat (held_segments c.left.left)) (flat left) own cut c.left.invariant.ready).1 in record {
      ready = subst (λ r. AreReady r (flat left) c.take_segment_back.new.world.world) (sym c.take_segment_back.ensures.room)
          (subst (AreReady room (flat left)) (sym c.take_segment_back.ensures.world) ready);
      rest = ap (back_all (flat left)) c.take_segment_back.ensures.world ∙ sym (back_rest room w (flat (held_segments c.left.left)) (flat left) own cut) ∙ c.left.invariant.rest;
      room = c.take_segment_back.ensures.room ∙ c.left.invariant.room;
    }
