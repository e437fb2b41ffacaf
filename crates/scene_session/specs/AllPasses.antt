-- All passes of a lock with one owner.
use Rattle.std.specs.Prelude.{◌≡◌, ◌⊎◌, ◌<◌, ◌++◌, ◌∷◌, [], ℕ, List, Result, MatchResult}
use Rattle.scene_lock.specs.declared.knowledge.Step.{Step}
use Rattle.scene_lock.specs.Pass.{PassView, all_seen}
use Rattle.scene_session.specs.declared.call.Call.{Call}
use Rattle.scene_session.specs.declared.call.Reply.{Reply}
use Rattle.scene_session.specs.declared.call.Stopped.{Stopped}
use Rattle.scene_session.specs.declared.entry.Entry.{Entry}
use Rattle.scene_session.specs.declared.state.Beginning.{Beginning}
use Rattle.scene_session.specs.Calls.{asked, told}
use Rattle.scene_session.specs.State.{HasEntered, IsLegal, IsStopped, answer_after}

-- one of these passes
abbrev pub IsAmong : List (PassView Entry Beginning) → PassView Entry Beginning → Type 0
IsAmong [] q = ⊥
IsAmong (p ∷ ps) q = (p ≡ q) ⊎ IsAmong ps q

-- each session of a lock of so many passes has its pass among these
abbrev pub AreAll : ℕ → List (PassView Entry Beginning) → Type 0
AreAll n ps = (s : ℕ) → s < n → (q : PassView Entry Beginning) × IsAmong ps q × (q.session ≡ s)

-- these passes have now seen this history, and through the last, a further one, these steps were made
abbrev pub passes_after : List Entry → List Step → List (PassView Entry Beginning) → PassView Entry Beginning → List (PassView Entry Beginning)
passes_after history steps others pass = all_seen history (others ++ record pass { steps = steps } ∷ [])

-- what a call came to, and the whole history before and after it, which is legal with the call
abbrev pub IsOnlyCall : Beginning → ℕ → Call → List Entry → Result Reply Stopped → List Entry → Type 0
IsOnlyCall o session c before reply after = MatchResult reply
    (λ r. HasEntered before session c r after × (told r ≡ answer_after o before (asked c)) × IsLegal o after)
    (λ x. (after ≡ before) × IsStopped o before c x)
