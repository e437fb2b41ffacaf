use Rattle.std.proofs.Common.{◌≡◌, Ok, OnOk, IfErr, subst, sym}
use Rattle.std.specs.Prelude.{Err}
use Rattle.scene_session.specs.Turns.{whole_by}
use Rattle.scene_session.specs.Whole.{Whole, whole_of}
use Rattle.scene_session.proofs.Turns.{redos_impossible, redos_possible, undos_impossible, undos_possible}
use Rattle.scene_session.proofs.way.Way.may_turn.Goals as goal

pub returns-in-Back-clause-done : goal.returns-in-Back-clause-done
returns-in-Back-clause-done c =
    subst (λ way. OnOk c.may_undo_by.result ((w : Whole) × (whole_by way c.args.count (whole_of c.args.editor.now) ≡ Ok (tt, w)))) (sym c.in-Back.is)
    (undos_possible c.args.count c.args.editor.now c.may_undo_by.result c.may_undo_by.ensures.done)

pub returns-in-Back-clause-refused : goal.returns-in-Back-clause-refused
returns-in-Back-clause-refused c =
    subst (λ way. IfErr c.may_undo_by.result (λ r. whole_by way c.args.count (whole_of c.args.editor.now) ≡ Err r)) (sym c.in-Back.is)
    (undos_impossible c.args.count c.args.editor.now c.may_undo_by.result c.may_undo_by.ensures.refused)

pub returns-in-On-clause-done : goal.returns-in-On-clause-done
returns-in-On-clause-done c =
    subst (λ way. OnOk c.may_redo_by.result ((w : Whole) × (whole_by way c.args.count (whole_of c.args.editor.now) ≡ Ok (tt, w)))) (sym c.in-On.is)
    (redos_possible c.args.count c.args.editor.now c.may_redo_by.result c.undo_and_redo_come_back.ensures.within c.may_redo_by.ensures.done)

pub returns-in-On-clause-refused : goal.returns-in-On-clause-refused
returns-in-On-clause-refused c =
    subst (λ way. IfErr c.may_redo_by.result (λ r. whole_by way c.args.count (whole_of c.args.editor.now) ≡ Err r)) (sym c.in-On.is)
    (redos_impossible c.args.count c.args.editor.now c.may_redo_by.result c.may_redo_by.ensures.refused)
