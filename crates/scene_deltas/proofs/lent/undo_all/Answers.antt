use Rattle.std.proofs.Common.{ap, subst, sym, ◌∙◌}
use Rattle.std.specs.List.{filter}
use Rattle.scene_deltas.specs.Copies.{copies_back}
use Rattle.scene_deltas.specs.Deltas.{back_all}
use Rattle.scene_deltas.specs.Ready.{AreReady}
use Rattle.scene_deltas.specs.Segments.{flat, shown}
use Rattle.scene_deltas.proofs.SegmentSteps.{back_ready, back_rest, kept_parts, left_over}
use Rattle.scene_deltas.proofs.Segments.{flat_pushed}
use Rattle.scene_deltas.proofs.lent.undo_all.Goals as goal

pub segment_back-requires-clause-ready : goal.segment_back-requires-clause-ready
segment_back-requires-clause-ready c =
    let before = c.in-Some.before.now in
    let segment = c.in-Some.segment.now in
    let cut = ap flat c.in-Some.ensures.cases.0 ∙ flat_pushed before segment in
    (back_ready c.left.world.room c.left.world.world (flat c.left.left.now) (flat before) (shown segment) cut c.left.invariant.ready).0

pub segment_back-requires-clause-copies : goal.segment_back-requires-clause-copies
segment_back-requires-clause-copies c =
    let before = c.in-Some.before.now in
    let segment = c.in-Some.segment.now in
    let cut = ap flat c.in-Some.ensures.cases.0 ∙ flat_pushed before segment in
    (filter copies_back (flat before), c.left.invariant.copies ∙ kept_parts copies_back (flat c.left.left.now) (flat before) (shown segment) cut)

pub left-preserved : goal.left-preserved
left-preserved c =
    let room = c.left.world.room in
    let w = c.left.world.world in
    let before = c.in-Some.before.now in
    let segment = c.in-Some.segment.now in
    let cut = ap flat c.in-Some.ensures.cases.0 ∙ flat_pushed before segment in
    let ready = (back_ready room w (flat c.left.left.now) (flat before) (shown segment) cut c.left.invariant.ready).1 in record {
      ready = subst (λ r. AreReady r (flat before) c.segment_back.new.world.world) (sym c.segment_back.ensures.room)
          (subst (AreReady room (flat before)) (sym c.segment_back.ensures.world) ready);
      rest = ap (back_all (flat before)) c.segment_back.ensures.world ∙ sym (back_rest room w (flat c.left.left.now) (flat before) (shown segment) cut)
          ∙ c.left.invariant.rest;
      room = c.segment_back.ensures.room ∙ c.left.invariant.room;
      copies = left_over c.left.copies.items c.segment_back.new.copies.items (filter copies_back (shown segment)) (filter copies_back (flat before))
          (c.left.invariant.copies ∙ kept_parts copies_back (flat c.left.left.now) (flat before) (shown segment) cut) c.segment_back.ensures.copies;
    }
