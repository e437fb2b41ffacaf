-- Two folds of commands that go in step.
use Rattle.std.proofs.Common.{◌≡◌, ℕ, ◌+◌, List, [], ◌∷◌, length, refl, ap, subst, arith, Option, Some, None, Ok}
use Rattle.std.specs.Prelude.{Err, ⊤}
use Rattle.scene_kinds.specs.declared.entity.Entity.{Entity}
use Rattle.scene_kinds.specs.Answers.{Outcome}
use Rattle.scene_model.specs.Perform.{Command, Act}
use Rattle.scene_machine.specs.Queue.{Request, Progress, Ended, reached, act_known, request, and_spawned, unless_refused, play_from}

-- both accept with one answer, and leave related states; or both refuse
abbrev pub BothDo : {A S T : Type 0} → (S → T → Type 0) → Outcome A S → Outcome A T → Type 0
BothDo R (Ok p) (Ok q) = (p.0 ≡ q.0) × R p.1 q.1
BothDo R (Ok p) (Err r) = ⊥
BothDo R (Err r) (Ok q) = ⊥
BothDo R (Err r) (Err q) = ⊤

-- a request gives only commands that meet this
abbrev pub GivesOnly : (Command → Type 0) → Request → Type 0
GivesOnly Good r = (spawned : List Entity) (c : Command) → r spawned ≡ Some c → Good c

module _ {S T : Type 0} (first : Act S) (second : Act T) (R : ℕ → S → T → Type 0) (Good : Command → Type 0) (Held : List Request → Type 0)
    (held : (r : Request) (rs : List Request) → Held (r ∷ rs) → GivesOnly Good r × Held rs)
    (more : (k n : ℕ) (s : S) (t : T) → R k s t → R (k + n) s t)
    (step : (k : ℕ) (s : S) (t : T) (c : Command) → Good c → R k s t → BothDo (R (k + 1)) (first s c) (second t c)) where
  -- one request, of which both queues have spawned the same
  both_ask : (k : ℕ) (r : Request) (p : Progress S) (q : Progress T) → GivesOnly Good r → p.spawned ≡ q.spawned → R k p.state q.state → BothDo (R (k + 1)) (request first r p) (request second r q)
  both_ask k r p q gives same related =
      subst (λ c. BothDo (R (k + 1)) (request first r p) (act_known second q.state c)) (ap r same) (from (r p.spawned) refl)
    where
      from : (c : Option Command) → r p.spawned ≡ c → BothDo (R (k + 1)) (act_known first p.state c) (act_known second q.state c)
      from None is = tt
      from (Some c) is = step k p.state q.state c (gives p.spawned c is) related

  -- what follows a request
  both_go_on : (i j k n : ℕ) (p : Progress S) (q : Progress T) (o : Outcome (Option Entity) S) (u : Outcome (Option Entity) T) (rest : Progress S → Ended S) (others : Progress T → Ended T)
      → p.spawned ≡ q.spawned → R k p.state q.state → BothDo (R (k + 1)) o u
      → ((x : Progress S) (y : Progress T) → x.spawned ≡ y.spawned → R (k + 1) x.state y.state → R ((k + 1) + n) (rest x).progress.state (others y).progress.state)
      → R (k + (1 + n)) (unless_refused i p o rest).progress.state (unless_refused j q u others).progress.state
  both_go_on i j k n p q (Ok a) (Ok b) rest others same related both go =
      subst (λ m. R m (unless_refused i p (Ok a) rest).progress.state (unless_refused j q (Ok b) others).progress.state)
      (let e : (k + 1) + n ≡ k + (1 + n) = omega arith in e)
      (go (reached a.1 (and_spawned p.spawned a.0)) (reached b.1 (and_spawned q.spawned b.0)) (λ i. and_spawned (same i) (both.0 i)) both.1)
  both_go_on i j k n p q (Ok a) (Err r) rest others same related both go = absurd both
  both_go_on i j k n p q (Err r) (Ok b) rest others same related both go = absurd both
  both_go_on i j k n p q (Err r) (Err f) rest others same related both go = more k (1 + n) p.state q.state related

  pub both_play : (i j k : ℕ) (rs : List Request) (p : Progress S) (q : Progress T) → Held rs → p.spawned ≡ q.spawned → R k p.state q.state
      → R (k + length rs) (play_from first i rs p).progress.state (play_from second j rs q).progress.state
  both_play i j k [] p q all same related = more k 0 p.state q.state related
  both_play i j k (r ∷ rs) p q all same related =
      subst (λ m. R m (play_from first i (r ∷ rs) p).progress.state (play_from second j (r ∷ rs) q).progress.state)
      (let e : k + (1 + length rs) ≡ k + length (r ∷ rs) = omega arith in e)
      (both_go_on i j k (length rs) p q (request first r p) (request second r q) (play_from first (i + 1) rs) (play_from second (j + 1) rs) same related
      (both_ask k r p q (held r rs all).0 same related)
      (λ x y now go. both_play (i + 1) (j + 1) (k + 1) rs x y (held r rs all).1 now go))
