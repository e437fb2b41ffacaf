-- Where all passes of a lock have one owner, a call is the only one.
use Rattle.std.proofs.Common.{◌≡◌, ◌≢◌, ◌⊎◌, ◌<◌, ℕ, List, [], ◌∷◌, ◌++◌, Result, Ok, Err, IfOk, IfErr, ⊎_elim, inl, inr, sym, ap, subst, ◌∙◌, arith}
use mathlib.Core.Logic.{dite}
use mathlib.Core.List.{append-nil, append_assoc}
use native.Mathlib.Decide.{ℕ_discrete}
use Rattle.std.specs.List.{All}
use Rattle.scene_lock.specs.History.{entries_of}
use Rattle.scene_lock.specs.Pass.{LockView, PassView, IsPassOf, IsStill, Follows, Enters, all_seen}
use Rattle.scene_lock.specs.Shared.{AtState, FollowsTo}
use Rattle.scene_session.specs.declared.call.Call.{Call}
use Rattle.scene_session.specs.declared.call.Reply.{Reply}
use Rattle.scene_session.specs.declared.call.Stopped.{Stopped}
use Rattle.scene_session.specs.declared.entry.Entry.{Entry}
use Rattle.scene_session.specs.declared.state.Beginning.{Beginning}
use Rattle.scene_session.specs.Calls.{asked, told}
use Rattle.scene_session.specs.State.{StateView, HasEntered, IsLegal, IsStopped, answer_after}
use Rattle.scene_session.specs.Session.{by_session}
use Rattle.scene_session.specs.AllPasses.{IsAmong, AreAll, IsOnlyCall, passes_after}
use Rattle.scene_session.proofs.OneHistory.{All-left, All-right, first_none, between, nothing_more}
use Rattle.scene_session.proofs.Performances.{IsEntryOf, last_answer, at_state}

abbrev P : Type 0
P = PassView Entry Beginning

-- what holds of all passes, holds of one among them
All-among : (F : P → Type 0) (ps : List P) (q : P) → All F ps → IsAmong ps q → F q
All-among F [] q all is = absurd is
All-among F (p ∷ ps) q all is = ⊎_elim (λ e. subst F e (all 0 p (omega arith))) (λ t. All-among F ps q (All-right F (p ∷ []) ps all) t) is

-- who is among passes with one more at the end, is among them or is that one
among-last : (ps : List P) (p q : P) → IsAmong (ps ++ p ∷ []) q → IsAmong ps q ⊎ (q ≡ p)
among-last [] p q is = ⊎_elim (λ e. inr (sym e)) (λ none. absurd none) is
among-last (x ∷ ps) p q is = ⊎_elim (λ e. inl (inl e)) (λ t. ⊎_elim (λ a. inl (inr a)) (λ e. inr e) (among-last ps p q t)) is

-- the same passes, of which the last is told by its parts
all_seen-last : (h : List Entry) (ps : List P) (p q : P) → record p { seen = h } ≡ record q { seen = h } → all_seen h (ps ++ p ∷ []) ≡ all_seen h (ps ++ q ∷ [])
all_seen-last h [] p q is = ap (λ x. x ∷ []) is
all_seen-last h (x ∷ ps) p q is = ap (λ l. record x { seen = h } ∷ l) (all_seen-last h ps p q is)

-- of the last pass a call changes what it has seen and its steps alone
pub passes_met : (lock : LockView Beginning) (h : List Entry) (others : List P) (before after : P) → IsPassOf lock before → IsStill lock before after
    → all_seen h (others ++ after ∷ []) ≡ passes_after h after.steps others before
passes_met lock h others before after of still = all_seen-last h others after (record before { steps = after.steps })
    (λ i. record { id = (still.0.0 ∙ sym of.0) i; terms = (still.0.1 ∙ sym of.1) i; session = still.1 i; seen = h; steps = after.steps })

module _ (lock : LockView Beginning) (pass after : P) (others : List P) (F : List Entry)
    (met : All (λ (q : P). Follows IsLegal by_session lock q (record q { seen = F })) (others ++ after ∷ []))
    (together : All (λ (q : P). q.seen ≡ pass.seen) others) (all : AreAll lock.terms.passes (others ++ pass ∷ [])) (still : IsStill lock pass after) where
  abbrev n : ℕ
  n = lock.terms.passes

  follows : Follows IsLegal by_session lock after (record after { seen = F })
  follows = All-right (λ (q : P). Follows IsLegal by_session lock q (record q { seen = F })) others (after ∷ []) met 0 after (omega arith)

  -- no other session has entered anything
  of_others : (s : ℕ) → s < n → pass.session ≢ s → entries_of by_session s F ≡ entries_of by_session s pass.seen
  of_others s lt other = let found = all s lt in let q = found.0 in
      ⊎_elim (λ there.
      let f = All-among (λ (q : P). Follows IsLegal by_session lock q (record q { seen = F })) others q
      (All-left (λ (q : P). Follows IsLegal by_session lock q (record q { seen = F })) others (after ∷ []) met) there in
      subst (λ k. entries_of by_session k F ≡ entries_of by_session k pass.seen) found.2
      (f.1.1 ∙ ap (entries_of by_session q.session) (All-among (λ (q : P). q.seen ≡ pass.seen) others q together there)))
      (λ same. absurd (other (ap (λ (x : P). x.session) (sym same) ∙ found.2))) (among-last others pass q found.1)

  -- what was entered, was entered right after what all had seen
  done : (c : Call) (d : Reply) → Enters IsLegal by_session lock pass (IsEntryOf c d) after
      → HasEntered pass.seen pass.session c d F × (told d ≡ answer_after lock.terms.opening pass.seen (asked c)) × IsLegal lock.terms.opening F
  done c d t = let u = t.1 in let e = u.1 in let h = pass.seen in let mid = u.2.0.0 in let later = follows.1.0.0 in
      let seen : after.seen ≡ (h ++ mid) ++ e ∷ [] = u.4 ∙ ap (λ l. l ++ e ∷ []) u.2.0.1 in
      let is : F ≡ h ++ e ∷ [] = between by_session n h mid later F e (follows.1.0.1 ∙ ap (λ l. l ++ later) seen) follows.2.1
      (subst (λ k. entries_of by_session k (h ++ mid) ≡ entries_of by_session k h) (sym u.5) (ap (entries_of by_session pass.session) (sym u.2.0.1) ∙ u.2.1))
      (subst (λ k. entries_of by_session k F ≡ entries_of by_session k ((h ++ mid) ++ e ∷ [])) (still.1 ∙ sym u.5) (follows.1.1 ∙ ap (entries_of by_session after.session) seen))
      (λ s lt other. of_others s lt (λ same. other (u.5 ∙ same))) in
      ((e, is, u.5, u.6.0, u.6.1), sym u.6.1 ∙ last_answer lock.terms.opening h F e follows.2.0 is ∙ ap (answer_after lock.terms.opening h) u.6.0, follows.2.0)

  -- where the pass has entered nothing, all have seen just what they had seen
  pub nothing_came : Follows IsLegal by_session lock pass after → (F ≡ pass.seen) × (after.seen ≡ pass.seen)
  nothing_came f = let h = pass.seen in let mid = f.1.0.0 in let later = follows.1.0.0 in
      let is : F ≡ h ++ (mid ++ later) = follows.1.0.1 ∙ ap (λ l. l ++ later) f.1.0.1 ∙ append_assoc h mid later in
      let none = nothing_more by_session n h (mid ++ later) (All-right (λ (e : Entry). e.session < n) h (mid ++ later) (subst (All (λ (e : Entry). e.session < n)) is follows.2.1))
      (λ s lt. ap (entries_of by_session s) (sym is) ∙ dite (ℕ_discrete pass.session s)
      (λ same. subst (λ k. entries_of by_session k F ≡ entries_of by_session k h) same
      (subst (λ k. entries_of by_session k F ≡ entries_of by_session k after.seen) still.1 follows.1.1 ∙ f.1.1))
      (λ other. of_others s lt other)) in (
        is ∙ ap (λ l. h ++ l) none ∙ append-nil h,
        f.1.0.1 ∙ ap (λ l. h ++ l) (first_none mid later none) ∙ append-nil h,
      )

  -- what holds of a state with what the pass has seen, holds of the history that all had seen
  pub at_same : (Q : StateView → Type 0) → Follows IsLegal by_session lock pass after
      → AtState (λ (s : StateView). IsLegal s.opening s.history) (λ (s : StateView). s.opening) (λ (s : StateView). s.history) lock.terms.opening after.seen Q
      → Q (record { opening = lock.terms.opening; history = pass.seen })
  at_same Q f at = subst (λ h. Q (record { opening = lock.terms.opening; history = h })) (nothing_came f).1 (at_state lock.terms.opening after.seen Q at)

  stopped : (c : Call) (x : Stopped)
      → FollowsTo (λ (s : StateView). IsLegal s.opening s.history) (λ (s : StateView). s.opening) (λ (s : StateView). s.history) IsLegal by_session lock pass
      (λ s. IsStopped s.opening s.history c x) after
      → (F ≡ pass.seen) × IsStopped lock.terms.opening pass.seen c x
  stopped c x t = ((nothing_came t.0).0, at_same (λ s. IsStopped s.opening s.history c x) t.0 t.1)

  -- a call through the pass is the only one
  pub only_call : (c : Call) (r : Result Reply Stopped) → IfOk r (λ d. Enters IsLegal by_session lock pass (IsEntryOf c d) after)
      → IfErr r (λ x. FollowsTo (λ (s : StateView). IsLegal s.opening s.history) (λ (s : StateView). s.opening) (λ (s : StateView). s.history) IsLegal by_session lock pass
      (λ s. IsStopped s.opening s.history c x) after)
      → IsOnlyCall lock.terms.opening pass.session c pass.seen r F
  only_call c (Ok d) t e = done c d t
  only_call c (Err x) t e = stopped c x e
