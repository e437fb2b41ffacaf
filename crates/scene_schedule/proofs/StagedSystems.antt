-- Systems on a stage are the systems on its world and their rows' cells, written on the stage.
use Rattle.std.proofs.Common.{◌≡◌, ℕ, ◌+◌, List, [], ◌∷◌, ◌++◌, refl, ap, sym, ◌∙◌, map, Option, Some, None, Ok}
use Rattle.std.specs.Prelude.{Result, Err}
use Rattle.scene_kinds.specs.declared.entity.Entity.{Entity}
use Rattle.scene_kinds.specs.declared.refusal.Refusal.{Refusal}
use Rattle.scene_kinds.specs.Answers.{Outcome}
use Rattle.scene_model.specs.World.{World}
use Rattle.scene_model.specs.Commands.{and_then}
use Rattle.scene_model.specs.Perform.{Act}
use Rattle.scene_machine.specs.Queue.{Request, play}
use Rattle.scene_machine.specs.Frame.{all_or_refused, queue, queues_from}
use Rattle.scene_world.specs.Stage.{Staged, Note, act}
use Rattle.scene_queue.specs.Frames.{on_world}
use Rattle.scene_systems.specs.declared.system_rule.SystemRule.{SystemRule}
use Rattle.scene_pass.specs.Changes.{first_fault}
use Rattle.scene_schedule.specs.Systems.{SystemOutput, changes_of, writes_of, queued_by, unless_over, overflow_at, system, systems_from}

-- ---- what an accepted outcome says of its parts

pub same_answer : {A E : Type 0} (p q : A) → ◌≡◌ {A = Result A E} (Ok p) (Ok q) → p ≡ q
same_answer p q h = cc

-- two calls one after another were both accepted
pub then_ok : {A B S : Type 0} (o : Outcome A S) (f : A → S → Outcome B S) (p : B × S) → and_then o f ≡ Ok p
    → (q : A × S) × ((o ≡ Ok q) × (f q.0 q.1 ≡ Ok p))
then_ok (Ok q) f p h = (q, (refl, h))
then_ok (Err r) f p h = absurd (cc)

-- and there was no overflow
pub over_ok : {A S : Type 0} (at : ℕ) (f : Option (Entity × ℕ)) (o : Outcome A S) (p : A × S) → unless_over at f o ≡ Ok p → (f ≡ None) × (o ≡ Ok p)
over_ok at None o p h = (refl, h)
over_ok at (Some f) o p h = absurd (let wrong : Err (overflow_at at f) ≡ Ok p = h in cc)

-- ---- queues

module _ {S : Type 0} (act : Act S) where
  -- an accepted queue is accepted by any number
  pub queue_by : (at q : ℕ) (rs : List Request) (s : S) (p : List Entity × S) → queue act at rs s ≡ Ok p → queue act q rs s ≡ Ok p
  queue_by at q rs s p h = from (play act rs s).progress.spawned (play act rs s).progress.state (play act rs s).refused h
    where
      from : (es : List Entity) (t : S) (r : Option (ℕ × Refusal)) → all_or_refused at t es r ≡ Ok p → all_or_refused q t es r ≡ Ok p
      from es t None g = g
      from es t (Some r) g = absurd (cc)

-- ---- systems

module _ {S : Type 0} (act : Act S) (seen : S → World) where
  -- an accepted system wrote its rows' cells
  system_writes : (at q : ℕ) (rule : SystemRule) (s : S) (p : SystemOutput × S) → system act seen at rule s ≡ Ok p
      → (es : List Entity) × (queue act q (writes_of p.0.rows) s ≡ Ok (es, p.1))
  system_writes at q rule s p h =
      let o = over_ok at (first_fault (changes_of (seen s) rule)) _ p h in
      let w = then_ok (queue act at (writes_of (changes_of (seen s) rule)) s) _ p o.1 in
      let made : (record { rows = changes_of (seen s) rule; commands = queued_by (seen w.0.1) rule }, w.0.1) ≡ p = same_answer _ p w.1.1 in (
        w.0.0,
        queue_by act at q (writes_of p.0.rows) s (w.0.0, p.1)
            (ap (λ (x : SystemOutput × S). queue act at (writes_of x.0.rows) s) (sym made) ∙ w.1.0 ∙ ap (λ (x : SystemOutput × S). Ok (w.0.0, x.1)) made),
      )

  -- and so did all of them
  pub systems_write : (at q : ℕ) (rules : List SystemRule) (s : S) (p : List SystemOutput × S) → systems_from act seen at rules s ≡ Ok p
      → (es : List Entity) × (queues_from act q (map (λ (out : SystemOutput). writes_of out.rows) p.0) s ≡ Ok (es, p.1))
  systems_write at q [] s p h =
      let made : ([], s) ≡ p = same_answer _ p h in (
        [],
        ap (λ (x : List SystemOutput × S). queues_from act q (map (λ (out : SystemOutput). writes_of out.rows) x.0) s) (sym made)
            ∙ ap (λ (x : List SystemOutput × S). Ok ([], x.1)) made,
      )
  systems_write at q (rule ∷ rules) s p h =
      let a = then_ok (system act seen at rule s) _ p h in
      let b = then_ok (systems_from act seen (at + 1) rules a.0.1) _ p a.1.1 in
      let made : (a.0.0 ∷ b.0.0, b.0.1) ≡ p = same_answer _ p b.1.1 in
      let first = system_writes at q rule s a.0 a.1.0 in
      let rest = systems_write (at + 1) (q + 1) rules a.0.1 b.0 b.1.0 in (
        first.0 ++ rest.0,
        ap (λ (x : List SystemOutput × S). queues_from act q (map (λ (out : SystemOutput). writes_of out.rows) x.0) s) (sym made)
            ∙ ap (λ o. and_then o (λ es t. and_then (queues_from act (q + 1) (map (λ (out : SystemOutput). writes_of out.rows) b.0.0) t) (λ fs u. Ok (es ++ fs, u)))) first.1
            ∙ ap (λ o. and_then o (λ fs u. Ok (first.0 ++ fs, u))) rest.1
            ∙ ap (λ (x : List SystemOutput × S). Ok (first.0 ++ rest.0, x.1)) made,
      )

-- ---- systems on a stage

-- what is accepted on the world of a stage is accepted on the stage
pub world_ok : {A N : Type 0} (o : Outcome A (Staged N)) (a : A) (v : World) → on_world o ≡ Ok (a, v)
    → (m : Staged N) × ((o ≡ Ok (a, m)) × (m.world ≡ v))
world_ok (Ok p) a v h =
    let made : (p.0, p.1.world) ≡ (a, v) = same_answer _ (a, v) h in
    (p.1, (ap (λ x. Ok (x.0, p.1)) made, ap (λ x. x.1) made))
world_ok (Err r) a v h = absurd (let wrong : Err r ≡ Ok (a, v) = h in cc)

-- the stage after systems is the one on which their rows' cells were written
pub staged_systems : {N : Type 0} (note : Note N) (at q : ℕ) (rules : List SystemRule) (s mid : Staged N) (v : World) (outs : List SystemOutput) (es : List Entity)
    → on_world (systems_from (act note) (λ t. t.world) at rules s) ≡ Ok (outs, v)
    → queues_from (act note) q (map (λ (out : SystemOutput). writes_of out.rows) outs) s ≡ Ok (es, mid)
    → systems_from (act note) (λ t. t.world) at rules s ≡ Ok (outs, mid)
staged_systems {N} note at q rules s mid v outs es ran wrote =
    let m = world_ok {A = List SystemOutput} {N = N} (systems_from (act note) (λ t. t.world) at rules s) outs v ran in
    let w = systems_write (act note) (λ (t : Staged N). t.world) at q rules s (outs, m.0) m.1.0 in
    let same : (w.0, m.0) ≡ (es, mid) = same_answer (w.0, m.0) (es, mid) (sym w.1 ∙ wrote) in
    m.1.0 ∙ ap (λ (x : List Entity × Staged N). Ok (outs, x.1)) same
