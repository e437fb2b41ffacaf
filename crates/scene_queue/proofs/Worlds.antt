-- What commands do to a state is seen as what they do to what is seen of it. So what they do to a stage's world is what
-- they do to that world alone, whatever the stage notes.
use Rattle.std.proofs.Common.{◌≡◌, ℕ, ◌+◌, List, [], ◌∷◌, Bool, true, false, if◌then◌else◌, refl, ap, sym, ◌∙◌, Option, Some, None, Ok}
use Rattle.std.specs.Prelude.{Err}
use Rattle.scene_kinds.specs.declared.entity.Entity.{Entity}
use Rattle.scene_kinds.specs.declared.refusal.Refusal.{Refusal}
use Rattle.scene_kinds.specs.Answers.{Outcome}
use Rattle.scene_model.specs.World.{World, is_live}
use Rattle.scene_model.specs.Commands.{and_then, spawn, despawn, despawn_recursive, insert, remove, set_parent, remove_parent, put_resource, remove_resource}
use Rattle.scene_model.specs.Perform.{Command, Act, Spawn, Despawn, DespawnRecursive, DespawnRecursiveIfAlive, Insert, Remove, SetParent, RemoveParent, PutResource, RemoveResource, answering, perform}
use Rattle.scene_machine.specs.Queue.{Request, Progress, Ended, reached, and_spawned, act_known, request, unless_refused, play_from, play, whole}
use Rattle.scene_machine.specs.Frame.{all_or_refused, whole_or_refused, queue, queues_from}
use Rattle.scene_world.specs.Stage.{Staged, Note, noting, act}
use Rattle.scene_queue.specs.Queue.{Stops}
use Rattle.scene_queue.specs.Frames.{seen_as, on_world}

-- ---- of whatever is seen

module _ {S T : Type 0} (see : S → T) where
  -- what follows on a state follows on what is seen of it
  pub then_seen : {A B : Type 0} (o : Outcome A S) (v : Outcome A T) (f : A → S → Outcome B S) (g : A → T → Outcome B T)
      → seen_as see o ≡ v → ((a : A) (s : S) → seen_as see (f a s) ≡ g a (see s)) → seen_as see (and_then o f) ≡ and_then v g
  then_seen (Ok p) v f g h later = later p.0 p.1 ∙ ap (λ w. and_then w g) h
  then_seen (Err r) v f g h later = ap (λ w. and_then w g) h

  -- a progress and an end, by what is seen of their states
  abbrev seen_of : Progress S → Progress T
  seen_of p = reached (see p.state) p.spawned

  abbrev ended_of : Ended S → Ended T
  ended_of e = record { progress = seen_of e.progress; refused = e.refused }

  all_seen : (q : ℕ) (s : S) (es : List Entity) (r : Option (ℕ × Refusal)) → seen_as see (all_or_refused q s es r) ≡ all_or_refused q (see s) es r
  all_seen q s es None = refl
  all_seen q s es (Some r) = refl

  module _ (first : Act S) (second : Act T) (each : (s : S) (c : Command) → seen_as see (first s c) ≡ second (see s) c) where
    known_seen : (s : S) (c : Option Command) → seen_as see (act_known first s c) ≡ act_known second (see s) c
    known_seen s None = refl
    known_seen s (Some c) = each s c

    -- the commands of a queue
    play_seen : (i : ℕ) (rs : List Request) (p : Progress S) → ended_of (play_from first i rs p) ≡ play_from second i rs (seen_of p)
    play_seen i [] p = refl
    play_seen i (r ∷ rs) p = from (request first r p) (request second r (seen_of p)) (known_seen p.state (r p.spawned)) (λ q. play_seen (i + 1) rs q)
      where
        from : (o : Outcome (Option Entity) S) (v : Outcome (Option Entity) T) → seen_as see o ≡ v
            → ((q : Progress S) → ended_of (play_from first (i + 1) rs q) ≡ play_from second (i + 1) rs (seen_of q))
            → ended_of (unless_refused i p o (play_from first (i + 1) rs)) ≡ unless_refused i (seen_of p) v (play_from second (i + 1) rs)
        from (Ok a) v h later =
            later (reached a.1 (and_spawned p.spawned a.0)) ∙ ap (λ w. unless_refused i (seen_of p) w (play_from second (i + 1) rs)) h
        from (Err e) v h later = ap (λ w. unless_refused i (seen_of p) w (play_from second (i + 1) rs)) h

    -- a queue
    pub queue_seen : (q : ℕ) (rs : List Request) (s : S) → seen_as see (queue first q rs s) ≡ queue second q rs (see s)
    queue_seen q rs s =
        let e = play_from first 0 rs (reached s []) in
        all_seen q e.progress.state e.progress.spawned e.refused ∙ ap (whole_or_refused q) (play_seen 0 rs (reached s []))

    -- the queues of a frame
    pub queues_seen : (q : ℕ) (rss : List (List Request)) (s : S) → seen_as see (queues_from first q rss s) ≡ queues_from second q rss (see s)
    queues_seen q [] s = refl
    queues_seen q (rs ∷ rss) s =
        then_seen (queue first q rs s) _ _ _ (queue_seen q rs s)
        (λ es t. then_seen (queues_from first (q + 1) rss t) _ _ _ (queues_seen (q + 1) rss t) (λ fs u. refl))

-- ---- of the world of a stage

noted_world : {A N : Type 0} (s : Staged N) (notes : List N) (f : A → Option Entity) (o : Outcome A World) → on_world (answering f (noting s notes o)) ≡ answering f o
noted_world s notes f (Ok p) = refl
noted_world s notes f (Err r) = refl

-- a despawn that passes over a dead entity, be it dead or not
if_alive : {N : Type 0} (s : Staged N) (notes : List N) (b : Bool) (o : Outcome (Unit {0}) World)
    → ◌≡◌ {A = Outcome (Option Entity) World} (on_world {A = Option Entity} (if b then answering (λ a. None) (noting s notes o) else Ok (None, s))) (answering (λ a. None) (if b then o else Ok (tt, s.world)))
if_alive s notes true o = noted_world s notes (λ a. None) o
if_alive s notes false o = refl

module _ {N : Type 0} (note : Note N) where
  pub act_world : (s : Staged N) (c : Command) → on_world (act note s c) ≡ perform s.world c
  act_world s (Spawn cells) = noted_world s (note s.world (Spawn cells)) Some (spawn s.world cells)
  act_world s (Despawn e) = noted_world s (note s.world (Despawn e)) (λ a. None) (despawn s.world e)
  act_world s (DespawnRecursive e) = noted_world s (note s.world (DespawnRecursive e)) (λ a. None) (despawn_recursive s.world e)
  act_world s (DespawnRecursiveIfAlive e) = if_alive s (note s.world (DespawnRecursive e)) (is_live s.world e) (despawn_recursive s.world e)
  act_world s (Insert e kind value) = noted_world s (note s.world (Insert e kind value)) (λ a. None) (insert s.world e kind value)
  act_world s (Remove e kind) = noted_world s (note s.world (Remove e kind)) (λ a. None) (remove s.world e kind)
  act_world s (SetParent child parent) = noted_world s (note s.world (SetParent child parent)) (λ a. None) (set_parent s.world child parent)
  act_world s (RemoveParent child) = noted_world s (note s.world (RemoveParent child)) (λ a. None) (remove_parent s.world child)
  act_world s (PutResource name value) = noted_world s (note s.world (PutResource name value)) (λ a. None) (put_resource s.world name value)
  act_world s (RemoveResource name) = noted_world s (note s.world (RemoveResource name)) (λ a. None) (remove_resource s.world name)

  -- a queue
  pub queue_world : (q : ℕ) (rs : List Request) (s : Staged N) → on_world (queue (act note) q rs s) ≡ queue perform q rs s.world
  queue_world = queue_seen (λ s. s.world) (act note) perform act_world

  -- the queues of a frame
  pub queues_world : (q : ℕ) (rss : List (List Request)) (s : Staged N) → on_world (queues_from (act note) q rss s) ≡ queues_from perform q rss s.world
  queues_world = queues_seen (λ s. s.world) (act note) perform act_world

  -- a queue of a frame of its own, whole
  pub whole_world : (rs : List Request) (s t : Staged N) (es : List Entity) → play (act note) rs s ≡ whole (reached t es) → queue perform 0 rs s.world ≡ Ok (es, t.world)
  whole_world rs s t es h = sym (queue_world 0 rs s) ∙ ap (λ e. on_world (whole_or_refused 0 e)) h

  -- and refused
  pub refused_world : (rs : List Request) (s t : Staged N) (r : Refusal) → Stops (act note) 0 rs s t r → queue perform 0 rs s.world ≡ Err r
  refused_world rs s t r is = sym (queue_world 0 rs s) ∙ ap (λ e. on_world (whole_or_refused 0 e)) is.1.1.1.0 ∙ ap (λ w. Err w) (sym is.1.1.1.1)
