use Rattle.std.proofs.Common.{◌++◌, ap, subst, sym, ◌∙◌, reverse}
use Rattle.std.specs.List.{filter}
use Rattle.std.proofs.lemmas.List.{append-nil}
use Rattle.scene_deltas.specs.declared.segment.Segment.{Segment}
use Rattle.scene_deltas.specs.Copies.{copies_again}
use Rattle.scene_deltas.specs.Ready.{AreReadyOn}
use Rattle.scene_deltas.specs.Segments.{shown, turn_deltas}
use Rattle.scene_deltas.proofs.TurnTexts.{turn_copies_again}
use Rattle.scene_deltas.proofs.Turns.{ready_fits_on}
use Rattle.scene_deltas.proofs.lent.segment_again.Goals as goal

pub make_turn_again-requires : goal.make_turn_again-requires
make_turn_again-requires c =
    let w = c.args.world.now in
    ready_fits_on w.room (turn_deltas c.in-Written.written) w.world (subst (λ (s : Segment). AreReadyOn w.room (shown s) w.world) c.in-Written.is c.requires.ready)

pub returns-in-Written-clause-copies : goal.returns-in-Written-clause-copies
returns-in-Written-clause-copies c =
    let none = ap (λ s. filter copies_again (shown s)) c.in-Written.is ∙ turn_copies_again c.in-Written.written in
    sym (append-nil c.args.copies.now.items) ∙ ap (λ ds. c.args.copies.now.items ++ reverse ds) (sym none)
