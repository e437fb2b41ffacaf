-- The records of an editor, as contracts see them.
use Rattle.std.specs.Prelude.{◌≡◌, ℕ, List, ◌∷◌, take}
use Rattle.scene_journal.specs.Records.{Record}

-- the records of the past, the newest first, those of the future, the next one first, how many records a past keeps,
-- and for how many further frames there is a place
pub record Stacked : Type 0 where
  pub past : List Record
  pub future : List Record
  pub depth : ℕ
  pub places : ℕ

-- the same records
pub record AreSame (new old : Stacked) : Type 0 where
  pub past : new.past ≡ old.past
  pub future : new.future ≡ old.future
  pub depth : new.depth ≡ old.depth

-- a record goes from a past to a future
abbrev pub IsUndone : (old_past old_future new_past new_future : List Record) → Type 0
IsUndone old_past old_future new_past new_future = (r : Record) × ((old_past ≡ r ∷ new_past) × (new_future ≡ r ∷ old_future))

-- a record goes from a future to a past, which keeps as many as the depth says
abbrev pub IsRedone : ℕ → (old_past old_future new_past new_future : List Record) → Type 0
IsRedone depth old_past old_future new_past new_future = (r : Record) × ((old_future ≡ r ∷ new_future) × (new_past ≡ take depth (r ∷ old_past)))
