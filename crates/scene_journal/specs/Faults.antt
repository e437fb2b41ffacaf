-- The first fault that a record has on a world. A fault of the tick has the number of deltas in place of a delta's
-- number.
use Rattle.std.specs.Prelude.{◌≡◌, ◌≢◌, ℕ, ◌+◌, ◌<◌, false, List, ◌∷◌, ◌++◌, length}
use Rattle.scene_kinds.specs.declared.fault.Fault.TheVariants.{BadRecord, NoMemory}
use Rattle.scene_kinds.specs.declared.refusal.Refusal.{Refusal}
use Rattle.scene_kinds.specs.Answers.{refusal_of}
use Rattle.scene_model.specs.World.{World}
use Rattle.scene_model.specs.Commands.{highest_tick}
use Rattle.scene_model.specs.Can.{can_set_tick}
use Rattle.scene_deltas.specs.declared.delta.Delta.{Delta}
use Rattle.scene_deltas.specs.Deltas.{fits_on, fits_back, fwd_all, back_all, AllFitOn, AllFitBack}
use Rattle.scene_journal.specs.Records.{Record, raised, RecordFitsOn, RecordFitsBack}

-- the delta of this number is the first, one after another, that doesn't fit at its turn
pub record IsFirstUnfit (ds : List Delta) (w : World) (k : ℕ) : Type 0 where
  pub before : List Delta
  pub delta : Delta
  pub behind : List Delta
  pub cut : ds ≡ before ++ delta ∷ behind
  pub number : k ≡ length before
  pub fit : AllFitOn before w
  pub unfit : fits_on delta (fwd_all before w) ≡ false

-- it is the first, from the last on, that doesn't fit back at its turn
pub record IsLastUnfit (ds : List Delta) (w : World) (k : ℕ) : Type 0 where
  pub before : List Delta
  pub delta : Delta
  pub behind : List Delta
  pub cut : ds ≡ before ++ delta ∷ behind
  pub number : k ≡ length before
  pub fit : AllFitBack behind w
  pub unfit : fits_back delta (back_all behind w) ≡ false

-- the world's tick is the one before the record, and can be raised
abbrev pub CanRaiseFor : Record → World → Type 0
CanRaiseFor r w = (w.tick ≡ r.tick_before) × (w.tick < highest_tick)

-- the first fault of a record that is redone: the tick, then the deltas from the first to the last
pub record IsFaultOn (r : Record) (w : World) (k : ℕ) : Type 0 where
  pub tick : (CanRaiseFor r w → ⊥) → k ≡ length r.deltas
  pub delta : CanRaiseFor r w → IsFirstUnfit r.deltas (raised w) k

-- the first fault of a record that is undone: the tick, then the deltas from the last to the first, then a cell that
-- was changed later than the tick before the record
pub record IsFaultBack (r : Record) (w : World) (k : ℕ) : Type 0 where
  pub tick : w.tick ≢ r.tick_before + 1 → k ≡ length r.deltas
  pub delta : w.tick ≡ r.tick_before + 1 → (AllFitBack r.deltas w → ⊥) → IsLastUnfit r.deltas w k
  pub late : w.tick ≡ r.tick_before + 1 → AllFitBack r.deltas w → (k ≡ length r.deltas) × (can_set_tick (back_all r.deltas w) r.tick_before ≡ false)

-- no memory was found, or a record is refused by a fault
abbrev pub Names : (ℕ → Type 0) → Refusal → Type 0
Names IsFault r = r ≢ refusal_of NoMemory → (k : ℕ) × ((r ≡ refusal_of (BadRecord 0 k)) × IsFault k)

-- a record that has a fault doesn't fit
abbrev pub FaultsAreFaults : Type 0
FaultsAreFaults = (r : Record) (w : World) (k : ℕ) → (IsFaultOn r w k → RecordFitsOn r w → ⊥) × (IsFaultBack r w k → RecordFitsBack r w → ⊥)

-- the world after the first of some deltas
pub record IsAfterSome (ds : List Delta) (w v : World) : Type 0 where
  pub made : List Delta
  pub left : List Delta
  pub cut : ds ≡ made ++ left
  pub after : v ≡ fwd_all made w

-- the world before the last of them
pub record IsBeforeSome (ds : List Delta) (w v : World) : Type 0 where
  pub left : List Delta
  pub taken : List Delta
  pub cut : ds ≡ left ++ taken
  pub before : v ≡ back_all taken w

-- what a refused redo leaves: the very world where its tick is at fault, else the raised one after the first of the
-- deltas
pub record IsRedoneInPart (r : Record) (w v : World) : Type 0 where
  pub same : (CanRaiseFor r w → ⊥) → v ≡ w
  pub part : CanRaiseFor r w → IsAfterSome r.deltas (raised w) v

-- what a refused undo leaves: the very world where its tick is at fault, else the one before the last of the deltas
pub record IsUndoneInPart (r : Record) (w v : World) : Type 0 where
  pub same : w.tick ≢ r.tick_before + 1 → v ≡ w
  pub part : w.tick ≡ r.tick_before + 1 → IsBeforeSome r.deltas w v
