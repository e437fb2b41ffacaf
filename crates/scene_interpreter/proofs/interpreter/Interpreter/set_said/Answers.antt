use Rattle.std.proofs.Common.{◌≡◌, IfErr, IfOk, ap, subst, sym}
use Rattle.scene_interpreter.specs.declared.setup_line.SetupAnswer.{SetupAnswer}
use Rattle.scene_interpreter.specs.Play.{setup_said, state_by}
use Rattle.scene_interpreter.specs.Interpreter.{Interpreter, Tells, halted, interpreter_said, mode_by, reached}
use Rattle.scene_interpreter.specs.Setup.{AnswersSetup, setup_by}
use Rattle.scene_interpreter.proofs.InterpreterLaws.{ends, given, still_halted}
use Rattle.scene_interpreter.proofs.interpreter.Interpreter.set_said.Goals as goal

pub returns-in-Ok-Given-clause-answer : goal.returns-in-Ok-Given-clause-answer
returns-in-Ok-Given-clause-answer g c =
    let s = setup_by g.O.ScriptOwner.most c.in-Setting.setup in
    let t = setup_by g.O.ScriptOwner.most c.answer_setup.new.setup in
    let said = c.args.said in
    given (reached g.O.SessionOwner.state g.O.ScriptOwner.most c.args.self.now) s t said c.in-Ok-Given.answer (ap (mode_by g.O.SessionOwner.state g.O.ScriptOwner.most) c.in-Setting.is)
    (subst (λ (a : SetupAnswer). AnswersSetup s t said (setup_said s said) a) c.in-Ok-Given.field-0-is c.in-Ok-Given.ensures.answer)

pub returns-in-Err-begin-clause-halted : goal.returns-in-Err-begin-clause-halted
returns-in-Err-begin-clause-halted g c =
    let z = reached g.O.SessionOwner.state g.O.ScriptOwner.most c.args.self.now in
    let s = setup_by g.O.ScriptOwner.most c.in-Setting.setup in
    let t = setup_by g.O.ScriptOwner.most c.answer_setup.new.setup in
    let said = c.args.said in
    still_halted z (interpreter_said z said).interpreter s t (setup_by g.O.ScriptOwner.most c.begin.new.setup) said c.in-Ok-Ends.line c.in-Err-begin.halt (ap (mode_by g.O.SessionOwner.state g.O.ScriptOwner.most) c.in-Setting.is)
    (subst (λ (a : SetupAnswer). AnswersSetup s t said (setup_said s said) a) c.in-Ok-Ends.field-0-is c.in-Ok-Ends.ensures.answer) c.in-Err-begin.ensures.halted

pub returns-in-Ok-clause-answer : goal.returns-in-Ok-clause-answer
returns-in-Ok-clause-answer g c =
    let z = reached g.O.SessionOwner.state g.O.ScriptOwner.most c.args.self.now in
    let s = setup_by g.O.ScriptOwner.most c.in-Setting.setup in
    let t = setup_by g.O.ScriptOwner.most c.answer_setup.new.setup in
    let said = c.args.said in
    subst (λ (y : Interpreter). IfOk c.after_begin.result (λ a. Tells a y (interpreter_said z said))) (sym c.go_to.ensures)
    (ends z s t said c.in-Ok-Ends.line (state_by g.O.SessionOwner.state c.in-Ok.state) c.in-Ok.answered c.after_begin.result (ap (mode_by g.O.SessionOwner.state g.O.ScriptOwner.most) c.in-Setting.is)
    (subst (λ (a : SetupAnswer). AnswersSetup s t said (setup_said s said) a) c.in-Ok-Ends.field-0-is c.in-Ok-Ends.ensures.answer)
    c.after_begin.ensures c.in-Ok.ensures.begun).0

pub returns-in-Ok-clause-halted : goal.returns-in-Ok-clause-halted
returns-in-Ok-clause-halted g c =
    let z = reached g.O.SessionOwner.state g.O.ScriptOwner.most c.args.self.now in
    let s = setup_by g.O.ScriptOwner.most c.in-Setting.setup in
    let t = setup_by g.O.ScriptOwner.most c.answer_setup.new.setup in
    let said = c.args.said in
    subst (λ (y : Interpreter). IfErr c.after_begin.result (λ h. y ≡ halted h z (interpreter_said z said).interpreter)) (sym c.go_to.ensures)
    (ends z s t said c.in-Ok-Ends.line (state_by g.O.SessionOwner.state c.in-Ok.state) c.in-Ok.answered c.after_begin.result (ap (mode_by g.O.SessionOwner.state g.O.ScriptOwner.most) c.in-Setting.is)
    (subst (λ (a : SetupAnswer). AnswersSetup s t said (setup_said s said) a) c.in-Ok-Ends.field-0-is c.in-Ok-Ends.ensures.answer)
    c.after_begin.ensures c.in-Ok.ensures.begun).1
