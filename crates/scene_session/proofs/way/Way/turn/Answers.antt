use Rattle.std.proofs.Common.{subst, sym}
use Rattle.scene_kinds.specs.Answers.{Answers}
use Rattle.scene_session.specs.Turns.{whole_by}
use Rattle.scene_session.specs.Whole.{whole_of}
use Rattle.scene_session.proofs.Turns.{redos_answer, undos_answer}
use Rattle.scene_session.proofs.way.Way.turn.Goals as goal

pub returns-in-Back : goal.returns-in-Back
returns-in-Back c =
    let old = c.args.editor.now in
    let new = c.undo_by.new.self in
    subst (λ way. Answers c.undo_by.result (whole_of old) (whole_of new) (whole_by way c.args.count (whole_of old))) (sym c.in-Back.is)
    (undos_answer c.args.count old c.undo_by.result new c.undo_by.ensures.machine c.undo_by.ensures.records c.undo_by.ensures.same)

pub returns-in-On : goal.returns-in-On
returns-in-On c =
    let old = c.args.editor.now in
    let new = c.redo_by.new.self in
    subst (λ way. Answers c.redo_by.result (whole_of old) (whole_of new) (whole_by way c.args.count (whole_of old))) (sym c.in-On.is)
    (redos_answer c.args.count old c.redo_by.result new c.undo_and_redo_come_back.ensures.within c.redo_by.ensures.machine c.redo_by.ensures.records c.redo_by.ensures.same)
