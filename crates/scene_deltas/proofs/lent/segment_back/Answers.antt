use Rattle.std.proofs.Common.{◌++◌, ap, subst, sym, ◌∙◌}
use Rattle.std.specs.List.{filter}
use Rattle.std.proofs.lemmas.List.{append-nil}
use Rattle.scene_deltas.specs.declared.segment.Segment.{Segment}
use Rattle.scene_deltas.specs.Copies.{copies_back}
use Rattle.scene_deltas.specs.Ready.{AreReady}
use Rattle.scene_deltas.specs.Segments.{shown, turn_deltas}
use Rattle.scene_deltas.proofs.TurnTexts.{turn_copies_back}
use Rattle.scene_deltas.proofs.Turns.{ready_fits_back}
use Rattle.scene_deltas.proofs.lent.segment_back.Goals as goal

pub take_turn_back-requires : goal.take_turn_back-requires
take_turn_back-requires c =
    let w = c.args.world.now in
    ready_fits_back w.room (turn_deltas c.in-Written.written) w.world (subst (λ (s : Segment). AreReady w.room (shown s) w.world) c.in-Written.is c.requires.ready)

pub returns-in-Written-clause-copies : goal.returns-in-Written-clause-copies
returns-in-Written-clause-copies c =
    let none = ap (λ s. filter copies_back (shown s)) c.in-Written.is ∙ turn_copies_back c.in-Written.written in
    sym (append-nil c.args.copies.now.items) ∙ ap (λ ds. c.args.copies.now.items ++ ds) (sym none)
