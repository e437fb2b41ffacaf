-- What each command keeps of worlds, queues and frames of queues keep.
use Rattle.std.proofs.Common.{◌≡◌, ℕ, ◌+◌, List, [], ◌∷◌, refl, subst, Option, Some, None, Ok}
use Rattle.std.specs.Prelude.{Err, ◌++◌}
use Rattle.scene_kinds.specs.declared.entity.Entity.{Entity}
use Rattle.scene_kinds.specs.declared.refusal.Refusal.{Refusal}
use Rattle.scene_kinds.specs.Answers.{Outcome}
use Rattle.scene_model.specs.World.{World}
use Rattle.scene_model.specs.Commands.{and_then}
use Rattle.scene_model.specs.Perform.{Command, perform}
use Rattle.scene_model.proofs.Outcomes.{not_ok, same_world}
use Rattle.scene_machine.specs.Queue.{Request, Progress, Ended, reached, act_known, request, and_spawned, unless_refused, play_from, play}
use Rattle.scene_machine.specs.Frame.{all_or_refused, queue, queues_from}

module _ (P : World → Type 0) where
  -- an outcome that is accepted leaves such a world
  abbrev pub Leaves : {A : Type 0} → Outcome A World → Type 0
  Leaves {A} o = (a : A) (v : World) → o ≡ Ok (a, v) → P v

  pub refused_leaves : {A : Type 0} (r : Refusal) → Leaves {A = A} (Err r)
  refused_leaves r a v h = absurd (not_ok (a, v) r h)

  pub given_leaves : {A : Type 0} (a : A) (w : World) → P w → Leaves (Ok (a, w))
  given_leaves a w is b v h = subst P (same_world a b w v h).1 is

  -- one call after another
  pub then_leaves : {A B : Type 0} (o : Outcome A World) (rest : A → World → Outcome B World) → Leaves o
      → ((a : A) (v : World) → P v → Leaves (rest a v)) → Leaves (and_then o rest)
  then_leaves (Ok p) rest leaves after = after p.0 p.1 (leaves p.0 p.1 refl)
  then_leaves (Err r) rest leaves after = λ b v h. refused_leaves r b v h

  module _ (each : (w : World) (c : Command) → P w → Leaves (perform w c)) where
    request_leaves : (r : Request) (p : Progress World) → P p.state → Leaves (request perform r p)
    request_leaves r p is = from (r p.spawned)
      where
        from : (c : Option Command) → Leaves (act_known perform p.state c)
        from None = λ a v h. refused_leaves _ a v h
        from (Some c) = each p.state c is

    rest_stays : (i : ℕ) (p : Progress World) (o : Outcome (Option Entity) World) (rest : Progress World → Ended World) → P p.state → Leaves o
        → ((q : Progress World) → P q.state → P (rest q).progress.state) → P (unless_refused i p o rest).progress.state
    rest_stays i p (Ok q) rest is leaves stays = stays (reached q.1 (and_spawned p.spawned q.0)) (leaves q.0 q.1 refl)
    rest_stays i p (Err r) rest is leaves stays = is

    play_stays : (i : ℕ) (rs : List Request) (p : Progress World) → P p.state → P (play_from perform i rs p).progress.state
    play_stays i [] p is = is
    play_stays i (r ∷ rs) p is =
        rest_stays i p (request perform r p) (play_from perform (i + 1) rs) is (request_leaves r p is) (λ q so. play_stays (i + 1) rs q so)

    all_leaves : (q : ℕ) (w : World) (es : List Entity) (r : Option (ℕ × Refusal)) → P w → Leaves (all_or_refused q w es r)
    all_leaves q w es None is = given_leaves es w is
    all_leaves q w es (Some r) is = λ a v h. refused_leaves _ a v h

    -- a queue
    pub queue_leaves : (q : ℕ) (rs : List Request) (w : World) → P w → Leaves (queue perform q rs w)
    queue_leaves q rs w is =
        let e = play perform rs w in all_leaves q e.progress.state e.progress.spawned e.refused (play_stays 0 rs (reached w []) is)

    -- the queues of a frame
    pub queues_leave : (q : ℕ) (rss : List (List Request)) (w : World) → P w → Leaves (queues_from perform q rss w)
    queues_leave q [] w is = given_leaves [] w is
    queues_leave q (rs ∷ rss) w is =
        then_leaves (queue perform q rs w) _ (queue_leaves q rs w is)
        (λ es v so. then_leaves (queues_from perform (q + 1) rss v) _ (queues_leave (q + 1) rss v so) (λ fs u good. given_leaves (es ++ fs) u good))
