-- The first fault of records that make no editor.
use Rattle.std.specs.Prelude.{◌≡◌, ◌≢◌, ℕ, List}
use Rattle.scene_kinds.specs.declared.fault.Fault.TheVariants.{BadRecord, NoMemory}
use Rattle.scene_kinds.specs.declared.refusal.Refusal.{Refusal}
use Rattle.scene_kinds.specs.Answers.{refusal_of}
use Rattle.scene_model.specs.World.{World}
use Rattle.scene_journal.specs.Records.{Record}
use Rattle.scene_undo.specs.declared.direction.Direction.{Direction}
use Rattle.scene_undo.specs.Direction.{Fits, IsFault, step}
use Rattle.scene_journal.specs.FirstFaults.{IsFirstFault as IsFirstFaultBy}

-- of records, in the order in which they go, the one of this number is the first that doesn't fit at its turn, and this
-- is its fault, by the number of a delta
abbrev pub IsFirstFault : Direction → List Record → World → (frame delta : ℕ) → Type 0
IsFirstFault way rs w frame delta = IsFirstFaultBy (step way) (Fits way) (IsFault way) rs w frame delta

-- no memory was found, or a record is refused by a fault
abbrev pub NamesFrame : (ℕ → ℕ → Type 0) → Refusal → Type 0
NamesFrame IsBad r = r ≢ refusal_of NoMemory → (frame delta : ℕ) × ((r ≡ refusal_of (BadRecord frame delta)) × IsBad frame delta)
