use Rattle.std.proofs.Common.{IfOk, subst}
use Rattle.scene_interpreter.specs.Answer.{Says}
use Rattle.scene_interpreter.specs.Play.{StateReply, state_by}
use Rattle.scene_interpreter.proofs.FrameLaws.{alone_within}
use Rattle.scene_interpreter.proofs.state_line.answer_line.Goals as goal

pub returns-then-is_none-clause-answer : goal.returns-then-is_none-clause-answer
returns-then-is_none-clause-answer g c =
    subst (λ (r : StateReply). IfOk c.answer_alone.result (λ answer. Says answer (state_by g.O.SessionOwner.state c.answer_alone.new.state) r))
    (alone_within (state_by g.O.SessionOwner.state c.args.state.now) c.args.line c.if-is_none.ensures) c.answer_alone.ensures.answer
