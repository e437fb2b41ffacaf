use Rattle.std.proofs.Common.{◌+◌, ◌<◌, ap, arith, drop, length, reverse, subst, sym, ◌∙◌}
use Rattle.std.specs.List.{filter}
use Rattle.scene_deltas.specs.Copies.{copies_again}
use Rattle.scene_deltas.specs.Deltas.{fwd_all}
use Rattle.scene_deltas.specs.Ready.{AreReadyOn}
use Rattle.scene_deltas.specs.Segments.{flat, shown}
use Rattle.scene_deltas.proofs.SegmentSteps.{left_over, on_ready, on_rest, turned_parts}
use Rattle.scene_deltas.proofs.Segments.{flat_from}
use Rattle.scene_deltas.proofs.lent.redo_all.Goals as goal

pub segment_again-requires-clause-ready : goal.segment_again-requires-clause-ready
segment_again-requires-clause-ready c =
    let segments = c.segments-segments.result.now in
    let at = c.loop-segment.segment-index in
    let segment = c.segment-item.result in
    let low : at < length segments = omega (arith, c.loop-segment-test.true) in
    let cut = flat_from segments at segment low c.segment-item.is in
    (on_ready c.loop-segment.world.room c.loop-segment.world.world (flat (drop at segments)) (shown segment) (flat (drop (at + 1) segments)) cut c.loop-segment.invariant.ready).0

pub segment_again-requires-clause-copies : goal.segment_again-requires-clause-copies
segment_again-requires-clause-copies c =
    let segments = c.segments-segments.result.now in
    let at = c.loop-segment.segment-index in
    let segment = c.segment-item.result in
    let low : at < length segments = omega (arith, c.loop-segment-test.true) in
    let cut = flat_from segments at segment low c.segment-item.is in (
      reverse (filter copies_again (flat (drop (at + 1) segments))),
      c.loop-segment.invariant.copies ∙ turned_parts copies_again (flat (drop at segments)) (shown segment) (flat (drop (at + 1) segments)) cut,
    )

pub loop-segment-preserved : goal.loop-segment-preserved
loop-segment-preserved c =
    let room = c.loop-segment.world.room in
    let w = c.loop-segment.world.world in
    let segments = c.segments-segments.result.now in
    let at = c.loop-segment.segment-index in
    let segment = c.segment-item.result in
    let low : at < length segments = omega (arith, c.loop-segment-test.true) in
    let cut = flat_from segments at segment low c.segment-item.is in
    let left = flat (drop (at + 1) segments) in
    let ready = (on_ready room w (flat (drop at segments)) (shown segment) left cut c.loop-segment.invariant.ready).1 in record {
      ready = subst (λ r. AreReadyOn r left c.segment_again.new.world.world) (sym c.segment_again.ensures.room)
          (subst (AreReadyOn room left) (sym c.segment_again.ensures.world) ready);
      rest = ap (fwd_all left) c.segment_again.ensures.world ∙ sym (on_rest room w (flat (drop at segments)) (shown segment) left cut) ∙ c.loop-segment.invariant.rest;
      room = c.segment_again.ensures.room ∙ c.loop-segment.invariant.room;
      copies = left_over c.loop-segment.copies.items c.segment_again.new.copies.items (reverse (filter copies_again (shown segment))) (reverse (filter copies_again left))
          (c.loop-segment.invariant.copies ∙ turned_parts copies_again (flat (drop at segments)) (shown segment) left cut) c.segment_again.ensures.copies;
    }
