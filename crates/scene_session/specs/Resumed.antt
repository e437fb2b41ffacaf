-- An owner that goes on behind calls of which only the number is known, and owners that differ only in which calls there
-- were.
use Rattle.std.specs.Prelude.{◌≡◌, ℕ, length}
use Rattle.scene_session.specs.Owner.{OwnerState, whole_at}
use Rattle.scene_session.specs.Whole.{Whole}

-- the machine with its records, of another count of undos
abbrev pub whole_rewound : ℕ → Whole → Whole
whole_rewound rewinds w = record w { machine = record w.machine { rewinds = rewinds } }

-- An owner goes on behind so many calls, after which there were so many undos. Nothing says which calls they were; else
-- its machine, its records, its limit and whose turn it is stay.
pub record IsResumed (rewinds calls : ℕ) (old new : OwnerState) : Type 0 where
  pub whole : whole_at new ≡ whole_rewound rewinds (whole_at old)
  pub limit : new.limit ≡ old.limit
  pub count : length new.history ≡ calls
  pub session : new.session ≡ old.session

-- Two owners are the same in all but which calls there were: in the machine with its records, in how many calls there may
-- be and how many there were, and in whose turn it is.
pub record OwnersAlike (g h : OwnerState) : Type 0 where
  pub whole : whole_at g ≡ whole_at h
  pub limit : g.limit ≡ h.limit
  pub count : length g.history ≡ length h.history
  pub session : g.session ≡ h.session
