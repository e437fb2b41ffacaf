use Rattle.std.proofs.Common.{◌≡◌, ◌<◌, ◌+◌, ◌++◌, length, get_or, drop, cond, sym, subst, ap, ◌∙◌, arith}
use Rattle.scene_model.specs.Perform.{perform}
use Rattle.scene_world.specs.Stage.{act}
use Rattle.scene_world.proofs.Room.{wider_wider}
use Rattle.scene_schedule.specs.Systems.{phase, in_phase, phases_from}
use Rattle.scene_schedule.proofs.Walks.{at_place}
use Rattle.scene_schedule.proofs.Phases.{joined, phases_step, phases_refused, sound_at, few_at}
use Rattle.scene_schedule.proofs.phase_player.play_phases.Goals as goal

pub play_phase-requires-clause-sound : goal.play_phase-requires-clause-sound
play_phase-requires-clause-sound g c κs within =
    let at = c.phases.phase-index in
    let below = subst (λ phases. at < length phases) c.phases-phase-items.ensures.list c.phases-test.true in
    let item = subst (λ phases. c.phase-item.result ≡ get_or phases at c.phase-item.result) c.phases-phase-items.ensures.list c.phase-item.is in
    let here = subst (λ rules. rules ≡ get_or c.args.schedule.now.phases at rules) (sym c.systems.ensures) item in
    sound_at c.args.schedule.now c.phases-phase-items.ensures.sound at c.systems.result.now (g.S.Stage.seen c.phases.stage).world.schema below here c.phases.invariant.1.0

pub returns-in-Err-clause-refused : goal.returns-in-Err-clause-refused
returns-in-Err-clause-refused g c = λ named.
    let at = c.phases.phase-index in
    let note = g.S.Stage.note in
    let s = g.S.Stage.seen c.phases.stage in
    let phases = c.args.schedule.now.phases in
    let rules = c.systems.result.now in
    let below = subst (λ phases. at < length phases) c.phases-phase-items.ensures.list c.phases-test.true in
    let item = subst (λ phases. c.phase-item.result ≡ get_or phases at c.phase-item.result) c.phases-phase-items.ensures.list c.phase-item.is in
    let here = subst (λ rules. rules ≡ get_or phases at rules) (sym c.systems.ensures) item in
    let left = ap (λ ps. joined c.phases.spawned.items (phases_from (act note) (λ t. t.world) at ps s)) (sym (at_place phases at rules below here)) in
    phases_refused note at rules (drop (at + 1) phases) phases s (g.S.Stage.seen c.args.stage.now) c.phases.spawned.items c.in-Err.refusal
    (left ∙ c.phases.invariant.1.1.0)
    (ap (λ n. in_phase n (phase perform (λ w. w) rules s.world)) (sym c.phases.invariant.0) ∙ c.in-Err.ensures.refused named)

pub returns-in-Err-clause-wide : goal.returns-in-Err-clause-wide
returns-in-Err-clause-wide g c =
    wider_wider (g.S.Stage.room c.args.stage.now) (g.S.Stage.room c.phases.stage) (g.S.Stage.room c.play_phase.new.stage) c.phases.invariant.1.1.1.1 c.in-Err.ensures.wide

pub overflow_add-at : goal.overflow_add-at
overflow_add-at g c =
    let at = c.phases.phase-index in
    let below = subst (λ phases. at < length phases) c.phases-phase-items.ensures.list c.phases-test.true in
    let few = few_at c.args.schedule.now c.phases-phase-items.ensures.sound at below in
    let same = c.phases.invariant.0 in
    omega (arith, few, same)

pub phases-preserved : goal.phases-preserved
phases-preserved g c =
    let at = c.phases.phase-index in
    let note = g.S.Stage.note in
    let s = g.S.Stage.seen c.phases.stage in
    let t = g.S.Stage.seen c.play_phase.new.stage in
    let phases = c.args.schedule.now.phases in
    let rules = c.systems.result.now in
    let below = subst (λ phases. at < length phases) c.phases-phase-items.ensures.list c.phases-test.true in
    let item = subst (λ phases. c.phase-item.result ≡ get_or phases at c.phase-item.result) c.phases-phase-items.ensures.list c.phase-item.is in
    let here = subst (λ rules. rules ≡ get_or phases at rules) (sym c.systems.ensures) item in
    let left = ap (λ ps. joined c.phases.spawned.items (phases_from (act note) (λ t. t.world) at ps s)) (sym (at_place phases at rules below here)) in
    let played = ap (λ n. in_phase n (phase (act note) (λ t. t.world) rules s)) (sym c.phases.invariant.0) ∙ c.in-Ok.ensures.played in
    let step = phases_step (act note) (λ t. t.world) at rules (drop (at + 1) phases) s t c.phases.spawned.items c.in-Ok.made.items played in
    let listed = c.append.ensures.items ∙ ap (λ b. cond b (c.phases.spawned.items ++ c.in-Ok.made.items) c.phases.spawned.items) c.if-is_err.ensures.negation in (
      ap (λ k. k + 1) c.phases.invariant.0,
      (
        c.in-Ok.ensures.schema ∙ c.phases.invariant.1.0,
        (
          ap (λ es. joined es (phases_from (act note) (λ t. t.world) (at + 1) (drop (at + 1) phases) t)) listed ∙ sym step ∙ left ∙ c.phases.invariant.1.1.0,
          (
            c.play_phase.ensures.opening ∙ c.phases.invariant.1.1.1.0,
            wider_wider (g.S.Stage.room c.args.stage.now) (g.S.Stage.room c.phases.stage) (g.S.Stage.room c.play_phase.new.stage) c.phases.invariant.1.1.1.1 c.play_phase.ensures.wide,
          ),
        ),
      ),
    )

pub returns-then-is_err-clause-wide : goal.returns-then-is_err-clause-wide
returns-then-is_err-clause-wide g c =
    wider_wider (g.S.Stage.room c.args.stage.now) (g.S.Stage.room c.phases.stage) (g.S.Stage.room c.play_phase.new.stage) c.phases.invariant.1.1.1.1 c.play_phase.ensures.wide
