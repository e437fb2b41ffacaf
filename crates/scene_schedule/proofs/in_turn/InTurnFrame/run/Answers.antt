use Rattle.std.proofs.Common.{◌≡◌, ◌≢◌, sym, ap, ◌∙◌, Ok}
use Rattle.std.specs.Prelude.{Err}
use Rattle.scene_kinds.specs.Answers.{refusal_of}
use Rattle.scene_kinds.specs.declared.fault.Fault.TheVariants.{NoMemory}
use Rattle.scene_model.specs.Perform.{perform}
use Rattle.scene_queue.specs.Frames.{on_world}
use Rattle.scene_world.specs.Stage.{act}
use Rattle.scene_schedule.specs.Systems.{phases_from}
use Rattle.scene_schedule.proofs.SameKinds.{for_same, for_other}
use Rattle.scene_schedule.proofs.Phases.{ok_then, err_then}
use Rattle.scene_schedule.proofs.Stages.{phases_world}
use Rattle.scene_schedule.proofs.in_turn.InTurnFrame.run.Goals as goal

pub returns-then-not-is_for-clause-refused : goal.returns-then-not-is_for-clause-refused
returns-then-not-is_for-clause-refused g c = λ named.
    let kinds = c.args.self.now.schedule.now.schema in
    let world = (g.S.Stage.seen c.args.stage.now).world in
    let same = c.schema.ensures ∙ ap (λ w. w.schema) c.world.ensures in
    for_other kinds world.schema (phases_from perform (λ v. v) 0 c.args.self.now.schedule.now.phases world)
    (λ e. absurd (let yes = c.is_for.ensures.1 (e ∙ sym same) in let no = c.if-not-is_for.true in cc)) ∙ ap Err (sym c.from.ensures)

pub returns-clause-noted : goal.returns-clause-noted
returns-clause-noted g c =
    let kinds = c.args.self.now.schedule.now.schema in
    let start = g.S.Stage.seen c.args.stage.now in
    let after = g.S.Stage.seen c.play_phases.new.stage in
    let same = c.is_for.ensures.0 c.if-not-is_for.false ∙ c.schema.ensures ∙ ap (λ w. w.schema) c.world.ensures in
    let phases = c.args.self.now.schedule.now.phases in
    ok_then c.play_phases.result (λ es. phases_from (act g.S.Stage.note) (λ t. t.world) 0 phases start ≡ Ok (es.items, after)) _ c.play_phases.ensures.played
    (λ es h. for_same kinds start.world.schema (phases_from (act g.S.Stage.note) (λ t. t.world) 0 phases start) same ∙ h)

pub returns-clause-world : goal.returns-clause-world
returns-clause-world g c =
    let kinds = c.args.self.now.schedule.now.schema in
    let start = g.S.Stage.seen c.args.stage.now in
    let after = g.S.Stage.seen c.play_phases.new.stage in
    let same = c.is_for.ensures.0 c.if-not-is_for.false ∙ c.schema.ensures ∙ ap (λ w. w.schema) c.world.ensures in
    let phases = c.args.self.now.schedule.now.phases in
    ok_then c.play_phases.result (λ es. phases_from (act g.S.Stage.note) (λ t. t.world) 0 phases start ≡ Ok (es.items, after)) _ c.play_phases.ensures.played
    (λ es h. for_same kinds start.world.schema (phases_from perform (λ v. v) 0 phases start.world) same
    ∙ sym (phases_world g.S.Stage.note 0 phases start) ∙ ap on_world h)

pub returns-clause-refused : goal.returns-clause-refused
returns-clause-refused g c =
    let kinds = c.args.self.now.schedule.now.schema in
    let start = g.S.Stage.seen c.args.stage.now in
    let same = c.is_for.ensures.0 c.if-not-is_for.false ∙ c.schema.ensures ∙ ap (λ w. w.schema) c.world.ensures in
    let phases = c.args.self.now.schedule.now.phases in
    err_then c.play_phases.result (λ r. r ≢ refusal_of NoMemory → phases_from perform (λ w. w) 0 phases start.world ≡ Err r) _ c.play_phases.ensures.refused
    (λ r h named. for_same kinds start.world.schema (phases_from perform (λ v. v) 0 phases start.world) same ∙ h named)
