use Rattle.std.proofs.Common.{subst}
use Rattle.scene_deltas.specs.declared.segment.Segment.{Segment}
use Rattle.scene_deltas.specs.Ready.{AreReady}
use Rattle.scene_deltas.specs.Segments.{shown, turn_deltas}
use Rattle.scene_deltas.proofs.Turns.{ready_fits_back}
use Rattle.scene_deltas.proofs.steps.take_segment_back.Goals as goal

pub take_turn_back-requires : goal.take_turn_back-requires
take_turn_back-requires c =
    let w = c.args.world.now in
    ready_fits_back w.room (turn_deltas c.in-Written.written) w.world (subst (λ (s : Segment). AreReady w.room (shown s) w.world) c.in-Written.is c.requires)
