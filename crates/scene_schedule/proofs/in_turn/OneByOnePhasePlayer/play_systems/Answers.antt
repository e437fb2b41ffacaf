use Rattle.std.proofs.Common.{◌≡◌, ◌≢◌, ◌+◌, ◌++◌, [], ◌∷◌, length, length-append, ap, ◌∙◌, arith, Ok}
use Rattle.std.specs.Prelude.{Err}
use Rattle.scene_kinds.specs.Answers.{refusal_of}
use Rattle.scene_kinds.specs.declared.fault.Fault.TheVariants.{NoMemory}
use Rattle.scene_kinds.specs.Schema.{Kinds}
use Rattle.scene_model.specs.Perform.{perform}
use Rattle.scene_machine.specs.Frame.{queues_from}
use Rattle.scene_queue.specs.Frames.{frame_of}
use Rattle.scene_world.proofs.Room.{wider_wider}
use Rattle.scene_world.specs.Stage.{act}
use Rattle.scene_schedule.specs.Schedule.{is_good_rule}
use Rattle.scene_schedule.specs.Systems.{changes_of, queued_by}
use Rattle.scene_schedule.proofs.InTurnPhases.{made_on, one_ran, one_over, phase_in_turn, queued_more, refused_in_turn}
use Rattle.scene_schedule.proofs.Outputs.{good_at}
use Rattle.scene_schedule.proofs.Phases.{err_then, ok_then}
use Rattle.scene_schedule.proofs.TableWrites.{schema_stays}
use Rattle.scene_schedule.proofs.in_turn.OneByOnePhasePlayer.play_systems.Goals as goal

pub write_system-requires-clause-good : goal.write_system-requires-clause-good
write_system-requires-clause-good g c κs within =
    let rule = c.index-rules-at.result in
    ap (λ (kinds : Kinds). is_good_rule kinds rule) c.systems.invariant.schema
    ∙ good_at (g.S.Stage.seen c.args.stage.now).world.schema c.args.rules.now c.systems.at rule c.requires.sound (omega (arith, c.systems-test.true)) c.index-rules-at.is

pub returns-in-Err-clause-refused : goal.returns-in-Err-clause-refused
returns-in-Err-clause-refused g c = λ named.
    one_over g.S.Stage.note c.args.rules.now (g.S.Stage.seen c.args.stage.now) c.systems.at c.index-rules-at.result (g.S.Stage.seen c.systems.stage) c.systems.invariant.outs c.in-Err.refusal
    (omega (arith, c.systems-test.true)) c.index-rules-at.is c.systems.invariant.ran (c.in-Err.ensures.refused named)

pub returns-in-Err-clause-wide : goal.returns-in-Err-clause-wide
returns-in-Err-clause-wide g c =
    wider_wider (g.S.Stage.room c.args.stage.now) (g.S.Stage.room c.systems.stage) (g.S.Stage.room c.write_system.new.stage) c.systems.invariant.wide c.write_system.ensures.wide

pub returns-in_err-queued_by-in-Ok-clause-wide : goal.returns-in_err-queued_by-in-Ok-clause-wide
returns-in_err-queued_by-in-Ok-clause-wide g c =
    wider_wider (g.S.Stage.room c.args.stage.now) (g.S.Stage.room c.systems.stage) (g.S.Stage.room c.write_system.new.stage) c.systems.invariant.wide c.write_system.ensures.wide

pub returns-in_err-push-in-Ok-clause-wide : goal.returns-in_err-push-in-Ok-clause-wide
returns-in_err-push-in-Ok-clause-wide g c =
    wider_wider (g.S.Stage.room c.args.stage.now) (g.S.Stage.room c.systems.stage) (g.S.Stage.room c.write_system.new.stage) c.systems.invariant.wide c.write_system.ensures.wide

pub systems-preserved : goal.systems-preserved
systems-preserved g c =
    let note = g.S.Stage.note in
    let now = g.S.Stage.seen c.systems.stage in
    let next = g.S.Stage.seen c.write_system.new.stage in
    let rule = c.index-rules-at.result in
    let wrote = c.in-Ok.ensures.written in
    record {
      outs = c.systems.invariant.outs ++ made_on now.world next.world rule ∷ [];
      ran = one_ran note c.args.rules.now (g.S.Stage.seen c.args.stage.now) c.systems.at rule now next c.systems.invariant.outs (omega (arith, c.systems-test.true)) c.index-rules-at.is
          c.systems.invariant.ran wrote;
      queued = queued_more c.systems.queues.items _ c.in_ok-queued_by-in-Ok.field-0 c.systems.invariant.outs (made_on now.world next.world rule) c.in_ok-push-in-Ok.ensures.items
          (c.in_ok-queued_by-in-Ok.ensures.queued ∙ ap (λ w. queued_by w rule) c.world.ensures) c.systems.invariant.queued;
      count = ap length c.in_ok-push-in-Ok.ensures.items ∙ length-append c.systems.queues.items (c.in_ok-queued_by-in-Ok.field-0 ∷ []) ∙ ap (λ n. n + 1) c.systems.invariant.count;
      schema = schema_stays note (changes_of now.world rule) now next wrote ∙ c.systems.invariant.schema;
      opening = c.write_system.ensures.opening ∙ c.systems.invariant.opening;
      wide = wider_wider (g.S.Stage.room c.args.stage.now) (g.S.Stage.room c.systems.stage) (g.S.Stage.room c.write_system.new.stage) c.systems.invariant.wide c.write_system.ensures.wide;
    }

pub returns-clause-played : goal.returns-clause-played
returns-clause-played g c =
    let note = g.S.Stage.note in
    let now = g.S.Stage.seen c.systems.stage in
    let after = g.S.Stage.seen c.apply_owned.new.stage in
    ok_then c.apply_owned.result (λ es. queues_from (act note) 0 (frame_of c.systems.queues.items) now ≡ Ok (es.items, after)) _ c.apply_owned.ensures.whole
    (λ es h. phase_in_turn note c.args.rules.now (g.S.Stage.seen c.args.stage.now) c.systems.at now c.systems.invariant.outs c.systems.queues.items c.systems-test.false
    c.systems.invariant.ran c.systems.invariant.queued after es.items h)

pub returns-clause-refused : goal.returns-clause-refused
returns-clause-refused g c =
    let note = g.S.Stage.note in
    let now = g.S.Stage.seen c.systems.stage in
    err_then c.apply_owned.result (λ r. r ≢ refusal_of NoMemory → queues_from perform 0 (frame_of c.systems.queues.items) now.world ≡ Err r) _ c.apply_owned.ensures.world_refused
    (λ r h named. refused_in_turn note c.args.rules.now (g.S.Stage.seen c.args.stage.now) c.systems.at now c.systems.invariant.outs c.systems.queues.items c.systems-test.false
    c.systems.invariant.ran c.systems.invariant.queued r (h named))

pub returns-clause-wide : goal.returns-clause-wide
returns-clause-wide g c =
    wider_wider (g.S.Stage.room c.args.stage.now) (g.S.Stage.room c.systems.stage) (g.S.Stage.room c.apply_owned.new.stage) c.systems.invariant.wide c.apply_owned.ensures.wide
