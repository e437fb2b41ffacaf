-- A history with one entry more.
use Rattle.std.proofs.Common.{◌≡◌, List, [], ◌∷◌, ◌++◌, refl}
use Rattle.scene_session.specs.History.{replay, AreTrue}

module _ {M E : Type 0} (next : M → E → M) where
  -- the entry goes on from what the history comes to
  pub replay_entered : (m : M) (es : List E) (e : E) → replay next m (es ++ e ∷ []) ≡ next (replay next m es) e
  replay_entered m [] e = refl
  replay_entered m (x ∷ es) e = replay_entered (next m x) es e

  -- and so do several
  pub replay_appended : (m : M) (es others : List E) → replay next m (es ++ others) ≡ replay next (replay next m es) others
  replay_appended m [] others = refl
  replay_appended m (x ∷ es) others = replay_appended (next m x) es others

  module _ (IsTrue : M → E → Type 0) where
    -- a true history stays true with an entry that is true after it
    pub true_entered : (m : M) (es : List E) (e : E) → AreTrue next IsTrue m es → IsTrue (replay next m es) e → AreTrue next IsTrue m (es ++ e ∷ [])
    true_entered m [] e before here = (here, tt)
    true_entered m (x ∷ es) e before here = (before.0, true_entered (next m x) es e before.1 here)

    -- the last entry of a true history is true after the others
    pub true_last : (m : M) (es : List E) (e : E) → AreTrue next IsTrue m (es ++ e ∷ []) → IsTrue (replay next m es) e
    true_last m [] e all = all.0
    true_last m (x ∷ es) e all = true_last (next m x) es e all.1
