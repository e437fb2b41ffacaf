-- What systems do to a state is seen as what they do to what is seen of it. So on a stage they do what they do on its
-- world, whatever the stage notes.
use Rattle.std.proofs.Common.{◌≡◌, ℕ, ◌+◌, List, [], ◌∷◌, Bool, true, false, refl, ap, map, Option, Some, None, Ok}
use Rattle.std.specs.Prelude.{Err}
use Rattle.scene_kinds.specs.declared.entity.Entity.{Entity}
use Rattle.scene_kinds.specs.Answers.{Outcome}
use Rattle.scene_model.specs.World.{World}
use Rattle.scene_model.specs.Commands.{and_then}
use Rattle.scene_model.specs.Perform.{Act, Command, perform}
use Rattle.scene_machine.specs.Frame.{queue}
use Rattle.scene_world.specs.Stage.{Staged, Note, act}
use Rattle.scene_queue.specs.Frames.{seen_as, on_world}
use Rattle.scene_queue.specs.Requests.{requests}
use Rattle.scene_queue.proofs.Worlds.{act_world, then_seen, queue_seen, queues_seen}
use Rattle.scene_systems.specs.declared.system_rule.SystemRule.{SystemRule}
use Rattle.scene_pass.specs.Changes.{first_fault}
use Rattle.scene_schedule.specs.Schedule.{ScheduleState, same_kinds}
use Rattle.scene_schedule.specs.Systems.{changes_of, writes_of, unless_over, system, systems_from, phase, in_phase, phases_from, if_for, advance_of}

-- ---- of whatever is seen

module _ {S T : Type 0} (see : S → T) where
  -- an overflow refuses both
  over_seen : {A : Type 0} (at : ℕ) (over : Option (Entity × ℕ)) (o : Outcome A S) (v : Outcome A T) → seen_as see o ≡ v
      → seen_as see (unless_over at over o) ≡ unless_over at over v
  over_seen at None o v h = h
  over_seen at (Some f) o v h = refl

  -- a refusal has the same place in both
  place_seen : {A : Type 0} (at : ℕ) (o : Outcome A S) (v : Outcome A T) → seen_as see o ≡ v → seen_as see (in_phase at o) ≡ in_phase at v
  place_seen at (Ok p) v h = ap (in_phase at) h
  place_seen at (Err r) v h = ap (in_phase at) h

  -- other kinds refuse both
  for_seen : {A : Type 0} (b : Bool) (o : Outcome A S) (v : Outcome A T) → seen_as see o ≡ v → seen_as see (if_for b o) ≡ if_for b v
  for_seen true o v h = h
  for_seen false o v h = refl

  module _ (world : T → World) (first : Act S) (second : Act T) (each : (s : S) (c : Command) → seen_as see (first s c) ≡ second (see s) c) where
    -- one system
    pub system_seen : (at : ℕ) (rule : SystemRule) (s : S)
        → seen_as see (system first (λ s. world (see s)) at rule s) ≡ system second world at rule (see s)
    system_seen at rule s =
        over_seen at (first_fault (changes_of (world (see s)) rule)) _ _
        (then_seen see (queue first at (writes_of (changes_of (world (see s)) rule)) s) _ _ _
        (queue_seen see first second each at (writes_of (changes_of (world (see s)) rule)) s) (λ es t. refl))

    -- the systems of a phase, one after another
    pub systems_seen : (at : ℕ) (rules : List SystemRule) (s : S)
        → seen_as see (systems_from first (λ s. world (see s)) at rules s) ≡ systems_from second world at rules (see s)
    systems_seen at [] s = refl
    systems_seen at (rule ∷ rules) s =
        then_seen see (system first (λ s. world (see s)) at rule s) _ _ _ (system_seen at rule s)
        (λ out t. then_seen see (systems_from first (λ s. world (see s)) (at + 1) rules t) _ _ _ (systems_seen (at + 1) rules t) (λ outs u. refl))

    -- a phase
    pub phase_seen : (rules : List SystemRule) (s : S)
        → seen_as see (phase first (λ s. world (see s)) rules s) ≡ phase second world rules (see s)
    phase_seen rules s =
        then_seen see (systems_from first (λ s. world (see s)) 0 rules s) _ _ _ (systems_seen 0 rules s)
        (λ outs t. queues_seen see first second each 0 (map (λ out. requests out.commands) outs) t)

    -- phases one after another
    pub phases_seen : (at : ℕ) (phases : List (List SystemRule)) (s : S)
        → seen_as see (phases_from first (λ s. world (see s)) at phases s) ≡ phases_from second world at phases (see s)
    phases_seen at [] s = refl
    phases_seen at (rules ∷ phases) s =
        then_seen see (in_phase at (phase first (λ s. world (see s)) rules s)) _ _ _
        (place_seen at (phase first (λ s. world (see s)) rules s) _ (phase_seen rules s))
        (λ es t. then_seen see (phases_from first (λ s. world (see s)) (at + 1) phases t) _ _ _ (phases_seen (at + 1) phases t) (λ fs u. refl))

    -- a schedule
    pub advance_seen : (schedule : ScheduleState) (s : S)
        → seen_as see (advance_of first (λ s. world (see s)) schedule s) ≡ advance_of second world schedule (see s)
    advance_seen schedule s = for_seen (same_kinds schedule.schema (world (see s)).schema) _ _ (phases_seen 0 schedule.phases s)

-- ---- of the world of a stage

-- what follows on a stage follows on its world
pub then_world : {A B N : Type 0} (o : Outcome A (Staged N)) (v : Outcome A World) (f : A → Staged N → Outcome B (Staged N)) (g : A → World → Outcome B World)
    → on_world o ≡ v → ((a : A) (t : Staged N) → on_world (f a t) ≡ g a t.world) → on_world (and_then o f) ≡ and_then v g
then_world = then_seen (λ s. s.world)

module _ {N : Type 0} (note : Note N) where
  -- the systems of a phase, one after another
  pub systems_world : (at : ℕ) (rules : List SystemRule) (s : Staged N)
      → on_world (systems_from (act note) (λ t. t.world) at rules s) ≡ systems_from perform (λ w. w) at rules s.world
  systems_world = systems_seen (λ s. s.world) (λ w. w) (act note) perform (act_world note)

  -- a phase
  pub phase_world : (rules : List SystemRule) (s : Staged N)
      → on_world (phase (act note) (λ t. t.world) rules s) ≡ phase perform (λ w. w) rules s.world
  phase_world = phase_seen (λ s. s.world) (λ w. w) (act note) perform (act_world note)

  -- phases one after another
  pub phases_world : (at : ℕ) (phases : List (List SystemRule)) (s : Staged N)
      → on_world (phases_from (act note) (λ t. t.world) at phases s) ≡ phases_from perform (λ w. w) at phases s.world
  phases_world = phases_seen (λ s. s.world) (λ w. w) (act note) perform (act_world note)
