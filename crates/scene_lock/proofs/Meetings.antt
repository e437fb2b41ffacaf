-- Passes that meet, all at once.
use Rattle.std.proofs.Common.{◌≡◌, ℕ, zero, suc, List, [], ◌∷◌, ◌++◌, false, refl, sym, ap, arith}
use Rattle.std.specs.List.{All}
use Rattle.scene_lock.specs.declared.knowledge.Knowledge.{Knowledge}
use Rattle.scene_lock.specs.History.{Continues, IsLegal}
use Rattle.scene_lock.specs.Pass.{LockView, PassView, IsPassOf, HaveMet, all_seen}
use Rattle.scene_lock.specs.declared.knowledge.Step.{Step}
use Rattle.scene_lock.specs.Members.{member, all_seeing, other_members, others_seat, joined_seat, seeing}

module _ {X : Type 0} (P : X → Type 0) where
  pub All-tail : (x : X) (xs : List X) → All P (x ∷ xs) → All P xs
  All-tail x xs all n d lt = all (suc n) d (omega (arith, lt))

  pub All-front : (xs : List X) (x : X) → All P (xs ++ x ∷ []) → All P xs
  All-front [] x all n d lt = absurd (omega (arith, lt))
  All-front (y ∷ xs) x all zero d lt = all 0 d (omega arith)
  All-front (y ∷ xs) x all (suc n) d lt = All-front xs x (All-tail y (xs ++ x ∷ []) all) n d (omega (arith, lt))

  pub All-last : (xs : List X) (x : X) → All P (xs ++ x ∷ []) → P x
  All-last [] x all = all 0 x (omega arith)
  All-last (y ∷ xs) x all = All-last xs x (All-tail y (xs ++ x ∷ []) all)

module _ {E O : Type 0} where
  pub all_seen-push : (h : List E) (ps : List (PassView E O)) (p : PassView E O) → all_seen h (ps ++ p ∷ []) ≡ all_seen h ps ++ record p { seen = h } ∷ []
  all_seen-push h [] p = refl
  all_seen-push h (q ∷ ps) p = ap (λ l. record q { seen = h } ∷ l) (all_seen-push h ps p)

  -- a seat that was joined to a pass's, and parted from it after a look
  pub others_again : (h : List E) (mine seat : Knowledge E O) (n : ℕ) (s : List E) (made : List Step) → mine.members ≡ member n s made ∷ [] → mine.terms ≡ seat.terms → seat.holding ≡ false
      → others_seat (seeing h (joined_seat mine seat)) ≡ seeing h seat
  others_again h mine seat n s made alone terms free i = record { terms = terms i; members = other_members (all_seeing h (alone i ++ seat.members)); holding = sym free i }

module _ {E O : Type 0} (lock : LockView O) where
  -- passes that have seen something else are passes of the same lock
  pub all_seen-each : (h : List E) (ps : List (PassView E O)) → All (IsPassOf lock) ps → All (IsPassOf lock) (all_seen h ps)
  all_seen-each h [] all n d lt = absurd (omega (arith, lt))
  all_seen-each h (p ∷ ps) all zero d lt = all 0 d (omega arith)
  all_seen-each h (p ∷ ps) all (suc n) d lt = all_seen-each h ps (All-tail (IsPassOf lock) p ps all) n d (omega (arith, lt))

module _ {E O : Type 0} (legal : O → List E → Type 0) (by : E → ℕ) (lock : LockView O) where
  pub have_met : (h : List E) (before after : List (PassView E O)) → All (IsPassOf lock) before → All (λ q. Continues by q.session q.seen h) before → IsLegal legal by lock.terms h
      → after ≡ all_seen h before → HaveMet legal by lock before after
  have_met h before after mine goes lawful is = (h, is, λ n d lt. ((mine n d lt, refl), goes n d lt, lawful))
