-- No command changes the kinds of a world, so neither do queues, systems and phases.
use Rattle.std.proofs.Common.{◌≡◌, ℕ, ◌+◌, List, [], ◌∷◌, ◌++◌, Bool, true, false, ◌&&◌, if◌then◌else◌, refl, ◌∙◌, map, Option, Some, None, Ok}
use Rattle.std.specs.Prelude.{Err, IfOk}
use Rattle.scene_kinds.specs.declared.entity.Entity.{Entity}
use Rattle.scene_kinds.specs.declared.cells.Row.{Row}
use Rattle.scene_kinds.specs.declared.fault.Fault.{Fault}
use Rattle.scene_kinds.specs.declared.refusal.Refusal.{Refusal}
use Rattle.scene_kinds.specs.declared.value.Value.{Value}
use Rattle.scene_kinds.specs.Answers.{Outcome, refuse}
use Rattle.scene_kinds.specs.declared.fault.Fault.TheVariants.{NoSuchEntity, BadName, HasChildren}
use Rattle.scene_kinds.specs.Map as finite
use Rattle.scene_kinds.specs.Schema.{Kinds, is_good_name}
use Rattle.std.specs.Prelude.{is_some}
use Rattle.scene_alloc.specs.Slots.{SlotState, take_of}
use Rattle.scene_kinds.specs.declared.cell.Cell.{Cell}
use Rattle.scene_links.specs.Forest.{link_of, unlink_of, post}
use Rattle.scene_resources.specs.Resources.{put_of, take_of as taken_name}
use Rattle.scene_table.specs.declared.home.Home.{Home}
use Rattle.scene_model.specs.World.{World, is_live, row_of}
use Rattle.scene_model.specs.Commands.{unless, and_then, in_world, without_answer, with_live, spawn_fault, new_cells, after_take, spawn, after_despawn, despawn, despawn_each, despawn_recursive, despawn_recursive_if_alive, insert_fault, insert, remove_fault, remove, with_children, set_parent, remove_parent, with_resources, put_resource, remove_resource}
use Rattle.scene_model.specs.Perform.{Command, Spawn, Despawn, DespawnRecursive, DespawnRecursiveIfAlive, Insert, Remove, SetParent, RemoveParent, PutResource, RemoveResource, answering, perform}
use Rattle.scene_machine.specs.Queue.{Request, Progress, Ended, reached, and_spawned, act_known, request, unless_refused, play_from, play}
use Rattle.scene_machine.specs.Frame.{all_or_refused, queue, queues_from}
use Rattle.scene_queue.specs.Requests.{requests}
use Rattle.scene_systems.specs.declared.system_rule.SystemRule.{SystemRule}
use Rattle.scene_pass.specs.Changes.{first_fault}
use Rattle.scene_schedule.specs.Systems.{changes_of, writes_of, queued_by, unless_over, system, systems_from, phase, in_phase}

-- an accepted outcome has a world with these kinds
pub record Keeps {A : Type 0} (kinds : Kinds) (o : Outcome A World) : Type 0 where
  pub same : IfOk o (λ p. p.1.schema ≡ kinds)

-- ---- what an outcome is made of

kept_unless : {A : Type 0} (k : Kinds) (f : Option Fault) (o : Outcome A World) → Keeps k o → Keeps k (unless f o)
kept_unless k None o h = h
kept_unless k (Some f) o h = record { same = tt }

kept_if : {A : Type 0} (k : Kinds) (b : Bool) (o u : Outcome A World) → Keeps k o → Keeps k u → Keeps k (if b then o else u)
kept_if k true o u h g = h
kept_if k false o u h g = g

kept_live : {A : Type 0} (k : Kinds) (p : Option (Home × Row)) (rest : Home → Row → Outcome A World) → ((h : Home) (row : Row) → Keeps k (rest h row))
    → Keeps k (with_live p rest)
kept_live k None rest later = record { same = tt }
kept_live k (Some p) rest later = later p.0 p.1

kept_in_world : {A P : Type 0} (k : Kinds) (o : Outcome A P) (into : P → World) → ((p : P) → (into p).schema ≡ k) → Keeps k (in_world o into)
kept_in_world k (Ok p) into h = record { same = h p.1 }
kept_in_world k (Err r) into h = record { same = tt }

kept_answer : {A B : Type 0} (k : Kinds) (f : A → B) (o : Outcome A World) → Keeps k o → Keeps k (answering f o)
kept_answer k f (Ok p) h = record { same = h.same }
kept_answer k f (Err r) h = record { same = tt }

kept_none : {A : Type 0} (k : Kinds) (o : Outcome A World) → Keeps k o → Keeps k (answering {B = Option Entity} (λ a. None) o)
kept_none k o h = kept_answer k (λ a. None) o h

kept_without : {A : Type 0} (k : Kinds) (o : Outcome A World) → Keeps k o → Keeps k (without_answer o)
kept_without k (Ok p) h = record { same = h.same }
kept_without k (Err r) h = record { same = tt }

-- what keeps the kinds of each world keeps those before
kept_then : {A B : Type 0} (k : Kinds) (o : Outcome A World) (f : A → World → Outcome B World) → Keeps k o
    → ((a : A) (v : World) → Keeps v.schema (f a v)) → Keeps k (and_then o f)
kept_then k (Ok p) f h later = record { same = moved (f p.0 p.1) (later p.0 p.1) h.same }
  where
    moved : {B : Type 0} {j l : Kinds} (o : Outcome B World) → Keeps j o → j ≡ l → IfOk o (λ p. p.1.schema ≡ l)
    moved (Ok q) g e = g.same ∙ e
    moved (Err r) g e = tt
kept_then k (Err r) f h later = record { same = tt }

kept_over : {A : Type 0} (k : Kinds) (at : ℕ) (f : Option (Entity × ℕ)) (o : Outcome A World) → Keeps k o → Keeps k (unless_over at f o)
kept_over k at None o h = h
kept_over k at (Some f) o h = record { same = tt }

-- ---- commands

kept_taken : (w : World) (cells : List (ℕ × Cell)) (o : Outcome Entity SlotState) → Keeps w.schema (after_take w cells o)
kept_taken w cells (Ok p) = record { same = refl }
kept_taken w cells (Err r) = record { same = tt }

kept_spawn : (w : World) (cells : List (ℕ × Value)) → Keeps w.schema (spawn w cells)
kept_spawn w cells =
    kept_unless w.schema (spawn_fault w.schema cells) (after_take w (new_cells w.tick cells) (take_of w.slots))
    (kept_taken w (new_cells w.tick cells) (take_of w.slots))

kept_despawn : (w : World) (e : Entity) → Keeps w.schema (despawn w e)
kept_despawn w e =
    kept_live w.schema (row_of w e) _
    (λ h row. kept_if w.schema (is_some (finite.get w.children e)) (refuse HasChildren) (Ok (tt, after_despawn w h e)) (record { same = tt })
    (record { same = refl }))

kept_each : (es : List Entity) (w : World) → Keeps w.schema (despawn_each es w)
kept_each [] w = record { same = refl }
kept_each (e ∷ es) w = kept_then w.schema (despawn w e) (λ a v. despawn_each es v) (kept_despawn w e) (λ a v. kept_each es v)

kept_recursive : (w : World) (e : Entity) → Keeps w.schema (despawn_recursive w e)
kept_recursive w e =
    kept_live w.schema (row_of w e) (λ h row. despawn_each (post w.children e) w) (λ h row. kept_each (post w.children e) w)

kept_insert : (w : World) (e : Entity) (kind : ℕ) (value : Value) → Keeps w.schema (insert w e kind value)
kept_insert w e kind value =
    kept_live w.schema (row_of w e) _ (λ h row. kept_unless w.schema (insert_fault w.schema kind value) _ (record { same = refl }))

kept_remove : (w : World) (e : Entity) (kind : ℕ) → Keeps w.schema (remove w e kind)
kept_remove w e kind =
    kept_live w.schema (row_of w e) _ (λ h row. kept_unless w.schema (remove_fault w.schema row.cells kind) _ (record { same = refl }))

kept_link : (w : World) (child parent : Entity) → Keeps w.schema (in_world (link_of w.children child parent) (with_children w))
kept_link w child parent = kept_in_world w.schema (link_of w.children child parent) (with_children w) (λ p. refl)

kept_unlink : (w : World) (child : Entity) → Keeps w.schema (in_world (unlink_of w.children child) (with_children w))
kept_unlink w child = kept_in_world w.schema (unlink_of w.children child) (with_children w) (λ p. refl)

kept_taken_name : (w : World) (name : List ℕ) → Keeps w.schema (in_world (taken_name w.resources name) (with_resources w))
kept_taken_name w name = kept_in_world w.schema (taken_name w.resources name) (with_resources w) (λ p. refl)

-- each command
perform_keeps : (w : World) (c : Command) → Keeps w.schema (perform w c)
perform_keeps w (Spawn cells) = kept_answer w.schema Some (spawn w cells) (kept_spawn w cells)
perform_keeps w (Despawn e) = kept_none w.schema (despawn w e) (kept_despawn w e)
perform_keeps w (DespawnRecursive e) = kept_none w.schema (despawn_recursive w e) (kept_recursive w e)
perform_keeps w (DespawnRecursiveIfAlive e) =
    kept_none w.schema (despawn_recursive_if_alive w e)
    (kept_if w.schema (is_live w e) (despawn_recursive w e) (Ok (tt, w)) (kept_recursive w e) (record { same = refl }))
perform_keeps w (Insert e kind value) = kept_none w.schema (insert w e kind value) (kept_insert w e kind value)
perform_keeps w (Remove e kind) = kept_none w.schema (remove w e kind) (kept_remove w e kind)
perform_keeps w (SetParent child parent) =
    kept_none w.schema (set_parent w child parent)
    (kept_if w.schema (is_live w child && is_live w parent) (in_world (link_of w.children child parent) (with_children w)) (refuse NoSuchEntity)
    (kept_link w child parent) (record { same = tt }))
perform_keeps w (RemoveParent child) =
    kept_none w.schema (remove_parent w child)
    (kept_if w.schema (is_live w child) (without_answer (in_world (unlink_of w.children child) (with_children w))) (refuse NoSuchEntity)
    (kept_without w.schema (in_world (unlink_of w.children child) (with_children w)) (kept_unlink w child)) (record { same = tt }))
perform_keeps w (PutResource name value) =
    kept_none w.schema (put_resource w name value)
    (kept_if w.schema (is_good_name name) (Ok (tt, with_resources w (put_of w.resources name value w.tick))) (refuse BadName) (record { same = refl })
    (record { same = tt }))
perform_keeps w (RemoveResource name) =
    kept_none w.schema (remove_resource w name)
    (kept_without w.schema (in_world (taken_name w.resources name) (with_resources w)) (kept_taken_name w name))

-- ---- queues

known_keeps : (w : World) (c : Option Command) → Keeps w.schema (act_known perform w c)
known_keeps w None = record { same = tt }
known_keeps w (Some c) = perform_keeps w c

-- the commands of a queue
played_schema : (i : ℕ) (rs : List Request) (p : Progress World) → (play_from perform i rs p).progress.state.schema ≡ p.state.schema
played_schema i [] p = refl
played_schema i (r ∷ rs) p = from (request perform r p) (known_keeps p.state (r p.spawned)) (λ q. played_schema (i + 1) rs q)
  where
    from : (o : Outcome (Option Entity) World) → Keeps p.state.schema o
        → ((q : Progress World) → (play_from perform (i + 1) rs q).progress.state.schema ≡ q.state.schema)
        → (unless_refused i p o (play_from perform (i + 1) rs)).progress.state.schema ≡ p.state.schema
    from (Ok a) h later = later (reached a.1 (and_spawned p.spawned a.0)) ∙ h.same
    from (Err r) h later = refl

kept_all : (k : Kinds) (q : ℕ) (s : World) (es : List Entity) (r : Option (ℕ × Refusal)) → s.schema ≡ k → Keeps k (all_or_refused q s es r)
kept_all k q s es None h = record { same = h }
kept_all k q s es (Some r) h = record { same = tt }

pub queue_keeps : (q : ℕ) (rs : List Request) (w : World) → Keeps w.schema (queue perform q rs w)
queue_keeps q rs w =
    let e : Ended World = play perform rs w in
    kept_all w.schema q e.progress.state e.progress.spawned e.refused (played_schema 0 rs (reached w []))

queues_keep : (q : ℕ) (rss : List (List Request)) (w : World) → Keeps w.schema (queues_from perform q rss w)
queues_keep q [] w = record { same = refl }
queues_keep q (rs ∷ rss) w =
    kept_then w.schema (queue perform q rs w) (λ es t. and_then (queues_from perform (q + 1) rss t) (λ fs u. Ok (es ++ fs, u))) (queue_keeps q rs w)
    (λ es t. kept_then t.schema (queues_from perform (q + 1) rss t) (λ fs u. Ok (es ++ fs, u)) (queues_keep (q + 1) rss t) (λ fs u. record { same = refl }))

-- ---- systems

system_keeps : (at : ℕ) (rule : SystemRule) (w : World) → Keeps w.schema (system perform (λ v. v) at rule w)
system_keeps at rule w =
    kept_over w.schema at (first_fault (changes_of w rule)) _
    (kept_then w.schema (queue perform at (writes_of (changes_of w rule)) w)
    (λ es t. Ok (record { rows = changes_of w rule; commands = queued_by t rule }, t))
    (queue_keeps at (writes_of (changes_of w rule)) w) (λ es t. record { same = refl }))

systems_keep : (at : ℕ) (rules : List SystemRule) (w : World) → Keeps w.schema (systems_from perform (λ v. v) at rules w)
systems_keep at [] w = record { same = refl }
systems_keep at (rule ∷ rules) w =
    kept_then w.schema (system perform (λ v. v) at rule w)
    (λ out t. and_then (systems_from perform (λ v. v) (at + 1) rules t) (λ outs u. Ok (out ∷ outs, u))) (system_keeps at rule w)
    (λ out t. kept_then t.schema (systems_from perform (λ v. v) (at + 1) rules t) (λ outs u. Ok (out ∷ outs, u)) (systems_keep (at + 1) rules t)
    (λ outs u. record { same = refl }))

-- a phase
pub phase_keeps : (rules : List SystemRule) (w : World) → Keeps w.schema (phase perform (λ v. v) rules w)
phase_keeps rules w =
    kept_then w.schema (systems_from perform (λ v. v) 0 rules w)
    (λ outs t. queues_from perform 0 (map (λ out. requests out.commands) outs) t) (systems_keep 0 rules w)
    (λ outs t. queues_keep 0 (map (λ out. requests out.commands) outs) t)

-- a phase by its number
pub kept_in_phase : {A : Type 0} (k : Kinds) (at : ℕ) (o : Outcome A World) → Keeps k o → Keeps k (in_phase at o)
kept_in_phase k at (Ok p) h = record { same = h.same }
kept_in_phase k at (Err r) h = record { same = tt }
