use Rattle.std.proofs.Common.{◌≡◌, ◌≢◌, ◌≤◌, length, sym, subst, ap, ◌∙◌, Ok}
use Rattle.std.specs.Prelude.{Err}
use Rattle.scene_kinds.specs.Answers.{refusal_of}
use Rattle.scene_kinds.specs.declared.fault.Fault.TheVariants.{NoMemory}
use Rattle.scene_model.specs.Perform.{perform}
use Rattle.scene_machine.specs.Frame.{queues_from}
use Rattle.scene_queue.specs.Frames.{frame_of}
use Rattle.scene_world.specs.Stage.{act}
use Rattle.scene_schedule.specs.Output.{IsOutputOf, AreWritten}
use Rattle.scene_schedule.proofs.Phases.{few_queues, phase_played, phase_refused, ok_then, err_then}
use Rattle.scene_schedule.proofs.advance.OnOpeningWorldPhasePlayer.play_systems.Goals as goal

pub apply_owned-requires : goal.apply_owned-requires
apply_owned-requires g c =
    subst (λ queues. length queues ≤ 4294967295) (sym c.into_parts-rows.ensures.queues)
    (few_queues c.in_ok-output.output c.world.result.now.world c.args.rules.now c.in_ok-output.ensures.output c.requires.sound.few)

pub returns-clause-played : goal.returns-clause-played
returns-clause-played g c =
    let note = g.S.Stage.note in
    let start = g.S.Stage.seen c.args.stage.now in
    let mid = g.S.Stage.seen c.write_all.new.stage in
    let made = subst (λ w. IsOutputOf c.in_ok-output.output w c.args.rules.now) c.world.ensures c.in_ok-output.ensures.output in
    let wrote = subst (λ rows. AreWritten note rows start mid) (c.as_slice-2.ensures.value ∙ c.into_parts-rows.ensures.rows) c.in_ok-write_all.ensures.written in
    let after = g.S.Stage.seen c.apply_owned.new.stage in
    ok_then c.apply_owned.result (λ es. queues_from (act note) 0 (frame_of c.into_parts-rows.result.1.items) mid ≡ Ok (es.items, after)) _ c.apply_owned.ensures.whole
    (λ es h. phase_played note c.args.rules.now start mid c.in_ok-output.output made wrote after es.items
    (ap (λ queues. queues_from (act note) 0 (frame_of queues) mid) (sym c.into_parts-rows.ensures.queues) ∙ h))

pub returns-clause-refused : goal.returns-clause-refused
returns-clause-refused g c =
    let note = g.S.Stage.note in
    let start = g.S.Stage.seen c.args.stage.now in
    let mid = g.S.Stage.seen c.write_all.new.stage in
    let made = subst (λ w. IsOutputOf c.in_ok-output.output w c.args.rules.now) c.world.ensures c.in_ok-output.ensures.output in
    let wrote = subst (λ rows. AreWritten note rows start mid) (c.as_slice-2.ensures.value ∙ c.into_parts-rows.ensures.rows) c.in_ok-write_all.ensures.written in
    err_then c.apply_owned.result (λ r. r ≢ refusal_of NoMemory → queues_from perform 0 (frame_of c.into_parts-rows.result.1.items) mid.world ≡ Err r) _ c.apply_owned.ensures.world_refused
    (λ r h named. phase_refused note c.args.rules.now start mid c.in_ok-output.output made wrote r
    (ap (λ queues. queues_from perform 0 (frame_of queues) mid.world) (sym c.into_parts-rows.ensures.queues) ∙ h named))
