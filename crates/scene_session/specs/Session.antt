-- What contracts see of a session, and what its calls do to what it has seen.
use Rattle.std.specs.Prelude.{◌≡◌, List, [], ◌∷◌, ◌++◌, ℕ}
use Rattle.scene_kinds.specs.declared.fault.Fault.TheVariants.{Busy}
use Rattle.scene_kinds.specs.Answers.{refusal_of}
use Rattle.scene_lock.specs.History.{Continues}
use Rattle.scene_lock.specs.History.{IsLegal as IsLegalBy}
use Rattle.scene_lock.specs.Pass.{LockView, PassView, Follows}
use Rattle.scene_session.specs.declared.call.Call.{Call}
use Rattle.scene_session.specs.declared.call.Stopped.{Stopped}
use Rattle.scene_session.specs.declared.entry.Entry.{Entry}
use Rattle.scene_session.specs.declared.state.Beginning.{Beginning}
use Rattle.scene_session.specs.Calls.{Answer, asked, told}
use Rattle.scene_session.specs.State.{StateView, IsLegal, IsStopped, answer_after}

-- the lock and the pass
pub record SessionView : Type 0 where
  pub lock : LockView Beginning
  pub pass : PassView Entry Beginning

-- which session made an entry
abbrev pub by_session : Entry → ℕ
by_session e = e.session

-- the same session of the same lock, whatever it has seen
abbrev pub IsSame : SessionView → SessionView → Type 0
IsSame before after = (after.lock ≡ before.lock) × (after.pass.session ≡ before.pass.session)

-- it has seen a legal history that goes on from what it had seen, with no entry of its own more
abbrev pub SeesMore : SessionView → SessionView → Type 0
SeesMore before after = IsSame before after × Follows IsLegal by_session before.lock before.pass after.pass

-- A call was entered after some history, which goes on from what the session had seen, and the answer is the machine's
-- after that history. The session has seen it, and its own entry last
pub record Performed (before : SessionView) (c : Call) (given : Answer) (after : SessionView) : Type 0 where
  pub same : IsSame before after
  pub history : List Entry
  pub entry : Entry
  pub goes_on : Continues by_session before.pass.session before.pass.seen history
  pub legal : IsLegalBy IsLegal by_session before.lock.terms history
  pub seen : after.pass.seen ≡ history ++ entry ∷ []
  pub session : entry.session ≡ before.pass.session
  pub call : asked entry.call ≡ asked c
  pub reply : told entry.reply ≡ given
  pub answer : given ≡ answer_after before.lock.terms.opening history (asked c)
  pub still_legal : IsLegalBy IsLegal by_session before.lock.terms after.pass.seen

-- The call wasn't entered after the history that the session has seen now, and was handed back: the history was full,
-- or else no memory was found
pub record NotPerformed (before : SessionView) (c : Call) (x : Stopped) (after : SessionView) : Type 0 where
  pub more : SeesMore before after
  pub stopped : IsStopped before.lock.terms.opening after.pass.seen c x

-- the call wasn't tried, since another session was inside, and was handed back
pub record WasBusy (before : SessionView) (c : Call) (x : Stopped) (after : SessionView) : Type 0 where
  pub more : SeesMore before after
  pub back : x.call ≡ c
  pub why : x.refusal ≡ refusal_of Busy

-- the state with just the history that a session has seen
abbrev pub state_seen : SessionView → StateView
state_seen s = record { opening = s.lock.terms.opening; history = s.pass.seen }
