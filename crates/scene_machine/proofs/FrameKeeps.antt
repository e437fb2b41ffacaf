-- An accepted frame keeps a valid world valid.
use Rattle.std.proofs.Common.{◌≡◌, ℕ, ◌+◌, List, [], ◌∷◌, refl, subst, Option, Some, None, Ok}
use Rattle.std.specs.Prelude.{Err, ◌++◌}
use Rattle.scene_kinds.specs.declared.entity.Entity.{Entity}
use Rattle.scene_kinds.specs.declared.refusal.Refusal.{Refusal}
use Rattle.scene_kinds.specs.Answers.{Outcome}
use Rattle.scene_model.specs.World.{World}
use Rattle.scene_model.specs.Commands.{and_then, raise_tick}
use Rattle.scene_model.specs.Perform.{Command, perform}
use Rattle.scene_machine.specs.Queue.{Request, Progress, Ended, reached, act_known, request, and_spawned, unless_refused, play_from, play}
use Rattle.scene_machine.specs.Frame.{all_or_refused, queue, queues_from}
use Rattle.scene_model.specs.Valid.{IsValid}
use Rattle.scene_machine.specs.Laws.{IsInRange, AreInRange, QueuesAreInRange, FramesKeep}
use Rattle.scene_model.proofs.Outcomes.{not_ok, same_world}
use Rattle.scene_model.proofs.CommandKeeps.{commands_keep}
use Rattle.scene_model.proofs.MoveKeeps.{raise_keeps}

-- an outcome leaves a valid world, where it leaves one
abbrev LeavesValid : {A : Type 0} → Outcome A World → Type 0
LeavesValid {A} o = (a : A) (v : World) → o ≡ Ok (a, v) → IsValid v

refused_leaves : {A : Type 0} (r : Refusal) → LeavesValid {A = A} (Err r)
refused_leaves r a v h = absurd (not_ok (a, v) r h)

request_leaves : (r : Request) (p : Progress World) → IsInRange r → IsValid p.state → LeavesValid (request perform r p)
request_leaves r p held valid = from (r p.spawned) refl
  where
    from : (c : Option Command) → r p.spawned ≡ c → LeavesValid (act_known perform p.state c)
    from None is a v h = refused_leaves _ a v h
    from (Some c) is a v h = commands_keep p.state v c a valid (held p.spawned c is) h

-- where a queue ends, the world is valid
rest_stays : (i : ℕ) (p : Progress World) (o : Outcome (Option Entity) World) (rest : Progress World → Ended World) → IsValid p.state → LeavesValid o
    → ((q : Progress World) → IsValid q.state → IsValid (rest q).progress.state) → IsValid (unless_refused i p o rest).progress.state
rest_stays i p (Ok q) rest valid leaves stays = stays (reached q.1 (and_spawned p.spawned q.0)) (leaves q.0 q.1 refl)
rest_stays i p (Err r) rest valid leaves stays = valid

pub play_stays : (i : ℕ) (rs : List Request) (p : Progress World) → AreInRange rs → IsValid p.state → IsValid (play_from perform i rs p).progress.state
play_stays i [] p held valid = valid
play_stays i (r ∷ rs) p held valid =
    rest_stays i p (request perform r p) (play_from perform (i + 1) rs) valid (request_leaves r p held.0 valid) (λ q ok. play_stays (i + 1) rs q held.1 ok)

all_leaves : (q : ℕ) (w : World) (es : List Entity) (r : Option (ℕ × Refusal)) → IsValid w → LeavesValid (all_or_refused q w es r)
all_leaves q w es None valid a v h = subst IsValid (same_world es a w v h).1 valid
all_leaves q w es (Some r) valid a v h = refused_leaves _ a v h

queue_leaves : (q : ℕ) (rs : List Request) (w : World) → AreInRange rs → IsValid w → LeavesValid (queue perform q rs w)
queue_leaves q rs w held valid = let e = play perform rs w in all_leaves q e.progress.state e.progress.spawned e.refused (play_stays 0 rs (reached w []) held valid)

-- one call after another
then_leaves : {A B : Type 0} (o : Outcome A World) (rest : A → World → Outcome B World) → LeavesValid o
    → ((a : A) (v : World) → IsValid v → LeavesValid (rest a v)) → LeavesValid (and_then o rest)
then_leaves (Ok p) rest leaves after = after p.0 p.1 (leaves p.0 p.1 refl)
then_leaves (Err r) rest leaves after = λ b v h. refused_leaves r b v h

given_leaves : {A : Type 0} (a : A) (w : World) → IsValid w → LeavesValid (Ok (a, w))
given_leaves a w valid b v h = subst IsValid (same_world a b w v h).1 valid

queues_leave : (q : ℕ) (rss : List (List Request)) (w : World) → QueuesAreInRange rss → IsValid w → LeavesValid (queues_from perform q rss w)
queues_leave q [] w held valid = given_leaves [] w valid
queues_leave q (rs ∷ rss) w held valid =
    then_leaves (queue perform q rs w) _ (queue_leaves q rs w held.0 valid)
    (λ es v ok. then_leaves (queues_from perform (q + 1) rss v) _ (queues_leave (q + 1) rss v held.1 ok) (λ fs u good. given_leaves (es ++ fs) u good))

pub frames_keep : FramesKeep
frames_keep queues w v es valid held =
    then_leaves (raise_tick w) _ (λ a u h. raise_keeps w u valid h) (λ a u ok. queues_leave 0 queues u held ok) es v
