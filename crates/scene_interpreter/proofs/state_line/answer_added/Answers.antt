use Rattle.std.proofs.Common.{Result, ap, subst}
use Rattle.std.specs.Global.{Vec}
use Rattle.scene_kinds.specs.declared.refusal.Refusal.{Refusal}
use Rattle.scene_pass.specs.Pass.{added_since}
use Rattle.scene_pass.specs.declared.cell_name.CellName.{CellName}
use Rattle.scene_session.specs.Queries.{ListsSince}
use Rattle.scene_session.specs.Owner.{machine_at}
use Rattle.scene_interpreter.specs.Play.{state_by}
use Rattle.scene_interpreter.specs.Said.{Added}
use Rattle.scene_interpreter.proofs.QueryLaws.{since_refused}
use Rattle.scene_interpreter.proofs.state_line.answer_added.Goals as goal

pub returns-in-Err-clause-answer : goal.returns-in-Err-clause-answer
returns-in-Err-clause-answer g c =
    let seen = g.O.SessionOwner.state in
    let s = state_by seen c.args.state.now in
    since_refused Added added_since s c.all.result (seen c.ask.new.owner) c.in-Err.refusal
    c.refused.result c.all.ensures.need c.all.ensures.without
    (subst (λ (a : Result (Vec CellName) Refusal). ListsSince added_since s.cursor c.all.result (machine_at s.owner) a)
    c.in-Err.is c.ask.ensures.answer)
    (ap seen c.ask.ensures.same) c.refused.ensures.answer c.refused.ensures.memory
