use Rattle.std.proofs.Common.{OnOk, IfErr, subst, sym}
use Rattle.scene_journal.specs.Faults.{Names}
use Rattle.scene_undo.specs.Direction.{Can, IsFault}
use Rattle.scene_undo.proofs.Turns.{both_ok}
use Rattle.scene_undo.proofs.direction.Direction.check.Goals as goal

pub returns-in-Undo-clause-can : goal.returns-in-Undo-clause-can
returns-in-Undo-clause-can c =
    subst (λ way. OnOk c.undo_checked_with.result (Can way c.undo_checked_with.new.draft.room c.args.frame.now c.args.draft.now.world)) (sym c.in-Undo.is)
    (both_ok c.undo_checked_with.result (λ fits ready. record { fits = fits; ready = ready }) c.undo_checked_with.ensures.fits c.undo_checked_with.ensures.ready)

pub returns-in-Undo-clause-refused : goal.returns-in-Undo-clause-refused
returns-in-Undo-clause-refused c =
    subst (λ way. IfErr c.undo_checked_with.result (Names (IsFault way c.args.frame.now c.args.draft.now.world))) (sym c.in-Undo.is)
    c.undo_checked_with.ensures.refused

pub returns-in-Redo-clause-can : goal.returns-in-Redo-clause-can
returns-in-Redo-clause-can c =
    subst (λ way. OnOk c.redo_checked.result (Can way c.redo_checked.new.draft.room c.args.frame.now c.args.draft.now.world)) (sym c.in-Redo.is)
    (both_ok c.redo_checked.result (λ fits ready. record { fits = fits; ready = ready }) c.redo_checked.ensures.fits c.redo_checked.ensures.ready)

pub returns-in-Redo-clause-refused : goal.returns-in-Redo-clause-refused
returns-in-Redo-clause-refused c =
    subst (λ way. IfErr c.redo_checked.result (Names (IsFault way c.args.frame.now c.args.draft.now.world))) (sym c.in-Redo.is)
    c.redo_checked.ensures.refused
