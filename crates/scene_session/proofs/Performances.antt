-- What a session's call says, out of what the lock says.
use Rattle.std.proofs.Common.{◌≡◌, List, [], ◌∷◌, ◌++◌, Result, Ok, Err, IfOk, sym, ap, subst, ◌∙◌}
use Rattle.scene_lock.specs.Pass.{Enters}
use Rattle.scene_lock.specs.Shared.{AtState}
use Rattle.scene_session.specs.declared.call.Call.{Call}
use Rattle.scene_session.specs.declared.call.Reply.{Reply}
use Rattle.scene_session.specs.declared.call.Stopped.{Stopped}
use Rattle.scene_session.specs.declared.entry.Entry.{Entry}
use Rattle.scene_session.specs.declared.state.Beginning.{Beginning}
use Rattle.scene_session.specs.Calls.{asked, told}
use Rattle.scene_session.specs.Whole.{whole_of, next, IsTrue}
use Rattle.scene_session.specs.History.{AreTrue}
use Rattle.scene_session.specs.State.{StateView, IsLegal, answer_after}
use Rattle.scene_session.specs.Session.{SessionView, Performed, by_session}
use Rattle.scene_session.proofs.Replays.{true_last}

-- what a job says of its entry
abbrev pub IsEntryOf : Call → Reply → Entry → Type 0
IsEntryOf c r e = (asked e.call ≡ asked c) × (told e.reply ≡ told r)

-- the last entry of a legal history has the machine's answer after the others
pub last_answer : (o : Beginning) (h all : List Entry) (e : Entry) → IsLegal o all → all ≡ h ++ e ∷ [] → told e.reply ≡ answer_after o h (asked e.call)
last_answer o h all e legal is = true_last next IsTrue (whole_of o.editor) h e (subst (AreTrue next IsTrue (whole_of o.editor)) is legal.0)

performed : (before after : SessionView) (c : Call) (r : Reply) → after.lock ≡ before.lock
    → Enters IsLegal by_session before.lock before.pass (IsEntryOf c r) after.pass → Performed before c (told r) after
performed before after c r lock t = let u = t.1 in record {
  same = (lock, t.0.1);
  history = u.0;
  entry = u.1;
  goes_on = u.2;
  legal = u.3;
  seen = u.4;
  session = u.5;
  call = u.6.0;
  reply = u.6.1;
  answer = sym u.6.1 ∙ last_answer before.lock.terms.opening u.0 after.pass.seen u.1 u.7.0 u.4 ∙ ap (answer_after before.lock.terms.opening u.0) u.6.0;
  still_legal = u.7;
}

-- where the lock entered something for a job, the session has performed its call
pub all_performed : (before after : SessionView) (c : Call) (r : Result Reply Stopped) → after.lock ≡ before.lock
    → IfOk r (λ d. Enters IsLegal by_session before.lock before.pass (IsEntryOf c d) after.pass) → IfOk r (λ d. Performed before c (told d) after)
all_performed before after c (Ok d) lock t = performed before after c d lock t
all_performed before after c (Err x) lock t = tt

-- what holds of a state with this opening and history, holds of the two
pub at_state : (o : Beginning) (h : List Entry) (P : StateView → Type 0) → AtState (λ (s : StateView). IsLegal s.opening s.history) (λ (s : StateView). s.opening) (λ (s : StateView). s.history) o h P
    → P (record { opening = o; history = h })
at_state o h P t = subst P (λ i. record { opening = t.1.1 i; history = t.2 i }) t.3
