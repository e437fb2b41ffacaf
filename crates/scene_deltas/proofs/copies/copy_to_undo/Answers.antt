use Rattle.std.proofs.Common.{◌++◌, ap, sym, ◌∙◌}
use Rattle.std.specs.List.{filter}
use Rattle.std.proofs.lemmas.List.{append-nil}
use Rattle.scene_deltas.specs.Copies.{copies_back}
use Rattle.scene_deltas.specs.Segments.{shown}
use Rattle.scene_deltas.proofs.TurnTexts.{turn_copies_back}
use Rattle.scene_deltas.proofs.copies.copy_to_undo.Goals as goal

pub returns-in_default : goal.returns-in_default
returns-in_default c =
    let none = ap (λ s. filter copies_back (shown s)) c.in_default.is ∙ turn_copies_back c.in_default.field-0 in
    sym (append-nil c.args.copies.now.items) ∙ ap (λ ds. c.args.copies.now.items ++ ds) (sym none)
