-- A phase on a stage: what its systems make of the stage's world, written, and then their queues.
use Rattle.std.proofs.Common.{◌≡◌, ◌≤◌, ◌<◌, ℕ, suc, ◌+◌, List, [], ◌∷◌, ◌++◌, length, get_or, refl, ap, sym, subst, ◌∙◌, arith, map, Some, Ok, append_assoc}
use Rattle.std.specs.Prelude.{Result, Err, IfOk, IfErr}
use Rattle.std.proofs.lemmas.List.{length-map}
use Rattle.std.proofs.lemmas.Simd.{map-map}
use Rattle.std.proofs.lemmas.Option.{slice_get-get_or}
use Rattle.scene_kinds.specs.declared.entity.Entity.{Entity}
use Rattle.scene_kinds.specs.declared.refusal.Refusal.{Refusal}
use Rattle.scene_kinds.specs.Answers.{Outcome}
use Rattle.scene_kinds.specs.Schema.{Kinds}
use Rattle.scene_model.specs.World.{World}
use Rattle.scene_model.specs.Commands.{and_then}
use Rattle.scene_model.specs.Perform.{Act, perform}
use Rattle.scene_machine.specs.Frame.{queues_from}
use Rattle.scene_world.specs.Stage.{Staged, Note, act}
use Rattle.scene_queue.specs.Queue.{QueueState}
use Rattle.scene_queue.specs.Frames.{frame_of, on_world}
use Rattle.scene_queue.specs.Requests.{requests}
use Rattle.scene_systems.specs.declared.system_rule.SystemRule.{SystemRule}
use Rattle.scene_schedule.specs.declared.output.PhaseOutput.{PhaseOutput}
use Rattle.scene_schedule.specs.Schedule.{ScheduleState, IsSchedule}
use Rattle.scene_schedule.specs.Sound.{IsSoundPhase}
use Rattle.scene_schedule.specs.Systems.{SystemOutput, writes_of, system, systems_from, phase, in_phase, phases_from}
use Rattle.scene_schedule.specs.Output.{IsOutputOf, AreWritten}
use Rattle.scene_schedule.proofs.Schemas.{phase_keeps, Keeps}
use Rattle.scene_schedule.proofs.Sounds.{schedules_sound}
use Rattle.scene_schedule.proofs.Stages.{then_world, systems_world, phase_world, phases_world}
use Rattle.scene_schedule.proofs.StagedSystems.{same_answer, then_ok, staged_systems}

-- ---- counts

-- so many systems make so many outputs
systems_count : {S : Type 0} (act : Act S) (seen : S → World) (at : ℕ) (rules : List SystemRule) (s : S) (p : List SystemOutput × S)
    → systems_from act seen at rules s ≡ Ok p → length p.0 ≡ length rules
systems_count act seen at [] s p h = ap (λ x. length x.0) (sym (same_answer _ p h))
systems_count act seen at (rule ∷ rules) s p h =
    let a = then_ok (system act seen at rule s) _ p h in
    let b = then_ok (systems_from act seen (at + 1) rules a.0.1) _ p a.1.1 in
    let made : (a.0.0 ∷ b.0.0, b.0.1) ≡ p = same_answer _ p b.1.1 in
    let rest : length b.0.0 ≡ length rules = systems_count act seen (at + 1) rules a.0.1 b.0 b.1.0 in
    ap (λ x. length x.0) (sym made) ∙ ap (λ n. suc n) rest

-- so a phase has few queues
pub few_queues : (output : PhaseOutput) (w : World) (rules : List SystemRule) → IsOutputOf output w rules → length rules ≤ 64
    → length output.queues.items ≤ 4294967295
few_queues output w rules made few =
    let outs : length made.outs ≡ length rules = systems_count perform (λ v. v) 0 rules w (made.outs, made.after) made.ran in
    let listed : length output.queues.items ≡ length (map (λ (q : QueueState). q.commands) output.queues.items) = sym (length-map output.queues.items (λ q. q.commands)) in
    let same : length (map (λ (q : QueueState). q.commands) output.queues.items) ≡ length (map (λ (out : SystemOutput). out.commands) made.outs) = ap length made.queues in
    let as_many : length (map (λ (out : SystemOutput). out.commands) made.outs) ≡ length made.outs = length-map made.outs (λ out. out.commands) in
    omega (arith, outs, listed, same, as_many, few)

-- ---- one phase

-- the queues ask what the systems queued
asked : (output : PhaseOutput) (w : World) (rules : List SystemRule) (made : IsOutputOf output w rules)
    → frame_of output.queues.items ≡ map (λ (out : SystemOutput). requests out.commands) made.outs
asked output w rules made =
    sym (map-map requests (λ (q : QueueState). q.commands) output.queues.items) ∙ ap (map requests) made.queues
    ∙ map-map requests (λ (out : SystemOutput). out.commands) made.outs

-- the cells that were written are those of the systems' rows
written : (output : PhaseOutput) (w : World) (rules : List SystemRule) (made : IsOutputOf output w rules)
    → map writes_of output.rows.items ≡ map (λ (out : SystemOutput). writes_of out.rows) made.outs
written output w rules made = ap (map writes_of) made.rows ∙ map-map writes_of (λ (out : SystemOutput). out.rows) made.outs

module _ {N : Type 0} (note : Note N) (rules : List SystemRule) (s mid : Staged N) (output : PhaseOutput) (made : IsOutputOf output s.world rules)
    (wrote : AreWritten note output.rows.items s mid) where
  -- the systems went on the stage as on its world
  went : systems_from (act note) (λ t. t.world) 0 rules s ≡ Ok (made.outs, mid)
  went =
      staged_systems note 0 0 rules s mid made.after made.outs wrote.spawned (systems_world note 0 rules s ∙ made.ran)
      (ap (λ rss. queues_from (act note) 0 rss s) (sym (written output s.world rules made)) ∙ wrote.wrote)

  -- so the phase is what its queues then do
  pub phase_played : (t : Staged N) (es : List Entity) → queues_from (act note) 0 (frame_of output.queues.items) mid ≡ Ok (es, t)
      → phase (act note) (λ t. t.world) rules s ≡ Ok (es, t)
  phase_played t es h =
      ap (λ o. and_then o (λ outs u. queues_from (act note) 0 (map (λ (out : SystemOutput). requests out.commands) outs) u)) went
      ∙ ap (λ rss. queues_from (act note) 0 rss mid) (sym (asked output s.world rules made)) ∙ h

  pub phase_refused : (r : Refusal) → queues_from perform 0 (frame_of output.queues.items) mid.world ≡ Err r
      → phase perform (λ w. w) rules s.world ≡ Err r
  phase_refused r h =
      let world : (made.outs, mid.world) ≡ (made.outs, made.after) =
      same_answer _ _ (sym (ap on_world went) ∙ systems_world note 0 rules s ∙ made.ran) in
      ap (λ o. and_then o (λ outs u. queues_from perform 0 (map (λ (out : SystemOutput). requests out.commands) outs) u)) made.ran
      ∙ ap (λ rss. queues_from perform 0 rss made.after) (sym (asked output s.world rules made))
      ∙ ap (λ (x : List SystemOutput × World). queues_from perform 0 (frame_of output.queues.items) x.1) (sym world) ∙ h

-- a refusal of the systems is one of the phase
pub systems_refused : (rules : List SystemRule) (w : World) (r : Refusal) → systems_from perform (λ v. v) 0 rules w ≡ Err r
    → phase perform (λ v. v) rules w ≡ Err r
systems_refused rules w r h = ap (λ o. and_then o (λ outs u. queues_from perform 0 (map (λ (out : SystemOutput). requests out.commands) outs) u)) h

-- a phase keeps the kinds
pub phase_kept : {N : Type 0} (note : Note N) (rules : List SystemRule) (s t : Staged N) (es : List Entity)
    → phase (act note) (λ t. t.world) rules s ≡ Ok (es, t) → t.world.schema ≡ s.world.schema
phase_kept note rules s t es h =
    (subst (Keeps s.world.schema) (sym (phase_world note rules s) ∙ ap on_world h) (phase_keeps rules s.world)).same

-- ---- phases

-- entities before those of an outcome
abbrev pub joined : {S : Type 0} → List Entity → Outcome (List Entity) S → Outcome (List Entity) S
joined es o = and_then o (λ fs u. Ok (es ++ fs, u))

joined_twice : {S : Type 0} (es fs : List Entity) (o : Outcome (List Entity) S) → joined es (joined fs o) ≡ joined (es ++ fs) o
joined_twice es fs (Ok p) = ap (λ gs. Ok (gs, p.1)) (sym (append_assoc es fs p.0))
joined_twice es fs (Err r) = refl

-- one more phase
pub phases_step : {S : Type 0} (act : Act S) (seen : S → World) (at : ℕ) (rules : List SystemRule) (rest : List (List SystemRule)) (s t : S) (es fs : List Entity)
    → in_phase at (phase act seen rules s) ≡ Ok (fs, t)
    → joined es (phases_from act seen at (rules ∷ rest) s) ≡ joined (es ++ fs) (phases_from act seen (at + 1) rest t)
phases_step act seen at rules rest s t es fs h =
    ap (λ o. joined es (and_then o (λ gs u. joined gs (phases_from act seen (at + 1) rest u)))) h
    ∙ joined_twice es fs (phases_from act seen (at + 1) rest t)

-- phases on a stage, as those on its world
left_on_world : {N : Type 0} (note : Note N) (at : ℕ) (phases : List (List SystemRule)) (s : Staged N) (es : List Entity)
    → on_world (joined es (phases_from (act note) (λ t. t.world) at phases s)) ≡ joined es (phases_from perform (λ w. w) at phases s.world)
left_on_world note at phases s es =
    then_world (phases_from (act note) (λ t. t.world) at phases s) _ (λ fs u. Ok (es ++ fs, u)) (λ fs u. Ok (es ++ fs, u)) (phases_world note at phases s) (λ fs u. refl)

-- a refusal of the phase at hand is one of them all
pub phases_refused : {N : Type 0} (note : Note N) (at : ℕ) (rules : List SystemRule) (rest all : List (List SystemRule)) (s start : Staged N) (es : List Entity) (r : Refusal)
    → joined es (phases_from (act note) (λ t. t.world) at (rules ∷ rest) s) ≡ phases_from (act note) (λ t. t.world) 0 all start
    → in_phase at (phase perform (λ w. w) rules s.world) ≡ Err r
    → phases_from perform (λ w. w) 0 all start.world ≡ Err r
phases_refused note at rules rest all s start es r h refused =
    sym (phases_world note 0 all start) ∙ ap on_world (sym h) ∙ left_on_world note at (rules ∷ rest) s es
    ∙ ap (λ o. joined es (and_then o (λ gs u. joined gs (phases_from perform (λ w. w) (at + 1) rest u)))) refused

-- ---- schedules

-- each phase of a schedule is sound
pub sound_at : (s : ScheduleState) → IsSchedule s → (at : ℕ) (rules : List SystemRule) (kinds : Kinds) → at < length s.phases → rules ≡ get_or s.phases at rules
    → kinds ≡ s.schema → IsSoundPhase kinds rules
sound_at s h at rules kinds below here same =
    subst (λ k. IsSoundPhase k rules) (sym same)
    ((schedules_sound s h).each at rules (slice_get-get_or s.phases at rules below ∙ ap Some (sym here)))

-- and its number is small
pub few_at : (s : ScheduleState) → IsSchedule s → (at : ℕ) → at < length s.phases → at < 64
few_at s h at below = let few = (schedules_sound s h).few in omega (arith, few, below)

-- ---- answers of calls

pub ok_then : {A E : Type 0} (r : Result A E) (P Q : A → Type 0) → IfOk r P → ((a : A) → P a → Q a) → IfOk r Q
ok_then (Ok a) P Q h later = later a h
ok_then (Err e) P Q h later = tt

pub err_then : {A E : Type 0} (r : Result A E) (P Q : E → Type 0) → IfErr r P → ((e : E) → P e → Q e) → IfErr r Q
err_then (Ok a) P Q h later = tt
err_then (Err e) P Q h later = later e h
