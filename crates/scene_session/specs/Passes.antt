-- The passes of eight sessions.
use Rattle.std.specs.Prelude.{◌≡◌, ◌∷◌, [], ℕ, List, map}
use Rattle.std.specs.List.{All}
use Rattle.scene_lock.specs.Pass.{LockView, PassView, IsPassOf}
use Rattle.scene_session.specs.declared.entry.Entry.{Entry}
use Rattle.scene_session.specs.declared.state.Beginning.{Beginning}
use Rattle.scene_session.specs.Owner.{OwnerState, owner_of}

-- the sessions 0 to 7
abbrev pub eight_sessions : List ℕ
eight_sessions = 0 ∷ 1 ∷ 2 ∷ 3 ∷ 4 ∷ 5 ∷ 6 ∷ 7 ∷ []

-- a lock of eight passes, and these are its passes, each at the place that is its session, and each has seen this
-- history
abbrev pub AreEight : LockView Beginning → List Entry → List (PassView Entry Beginning) → Type 0
AreEight lock history passes = (lock.terms.passes ≡ 8) × (map (λ p. p.session) passes ≡ eight_sessions)
    × All (λ p. IsPassOf lock p × (p.seen ≡ history)) passes

-- what the first has seen
abbrev pub first_seen : List (PassView Entry Beginning) → List Entry
first_seen [] = []
first_seen (p ∷ ps) = p.seen

-- the passes of eight sessions of this lock, each of which has seen just the calls of an owner
abbrev pub AreOf : LockView Beginning → List (PassView Entry Beginning) → OwnerState → Type 0
AreOf lock passes h = (history : List Entry) × AreEight lock history passes
    × (h ≡ owner_of (record { opening = lock.terms.opening; history = history }) h.session)
