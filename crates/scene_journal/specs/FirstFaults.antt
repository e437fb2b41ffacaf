-- The first fault of records that go one after another: as a relation, and as a function.
use Rattle.std.specs.Prelude.{◌≡◌, ℕ, suc, ◌+◌, List, [], ◌∷◌, ◌++◌, Option, None, length, option_map}
use Rattle.std.specs.Option.{option_or}
use Rattle.scene_model.specs.World.{World}
use Rattle.scene_model.specs.RawLists.{MayAll, after_all}
use Rattle.scene_journal.specs.Faults.{IsFaultOn, IsFaultBack}
use Rattle.scene_journal.specs.Records.{Record, redone, undone, RecordFitsOn, RecordFitsBack}
use Rattle.scene_journal.specs.Unfit.{first_unfit_on, first_unfit_back}

-- ---- as a relation

-- records that go one after another: where each leads, where it fits, and which fault it has where it doesn't
module _ (step : Record → World → World) (Fits : Record → World → Type 0) (IsFault : Record → World → ℕ → Type 0) where
  -- the record of this number, counted from 0, is the first that doesn't fit at its turn, and this is its fault, by the
  -- number of a delta
  pub record IsFirstFault (rs : List Record) (w : World) (frame delta : ℕ) : Type 0 where
    pub before : List Record
    pub unfit : Record
    pub behind : List Record
    pub cut : rs ≡ before ++ unfit ∷ behind
    pub number : frame ≡ length before
    pub fit : MayAll Fits step before w
    pub fault : IsFault unfit (after_all step before w) delta

-- each record of a past, the newest first, can be undone at its turn
abbrev pub PastFits : List Record → World → Type 0
PastFits past w = MayAll RecordFitsBack undone past w

-- each record of a future, the next one first, can be redone at its turn
abbrev pub FutureFits : List Record → World → Type 0
FutureFits future w = MayAll RecordFitsOn redone future w

-- the first fault of a past
abbrev pub IsPastFault : List Record → World → (frame delta : ℕ) → Type 0
IsPastFault past w frame delta = IsFirstFault undone RecordFitsBack IsFaultBack past w frame delta

-- the first fault of a future
abbrev pub IsFutureFault : List Record → World → (frame delta : ℕ) → Type 0
IsFutureFault future w frame delta = IsFirstFault redone RecordFitsOn IsFaultOn future w frame delta

-- the first fault of both: the past is undone, and then, from the same world, the future is redone, whose numbers go on
pub record IsFaultOf (past future : List Record) (w : World) (frame delta : ℕ) : Type 0 where
  pub in_past : (PastFits past w → ⊥) → IsPastFault past w frame delta
  pub in_future : PastFits past w → (number : ℕ) × ((frame ≡ length past + number) × IsFutureFault future w number delta)

-- ---- as a function

-- the fault of the first record that doesn't fit at its turn, by the number of the record and that of a delta
abbrev pub first_fault_in : (Record → World → Option ℕ) → (Record → World → World) → List Record → World → Option (ℕ × ℕ)
first_fault_in unfit step [] w = None
first_fault_in unfit step (r ∷ rs) w =
    option_or (option_map (λ delta. (0, delta)) (unfit r w)) (option_map (λ p. (suc p.0, p.1)) (first_fault_in unfit step rs (step r w)))

-- the first fault of a past
abbrev pub past_fault : List Record → World → Option (ℕ × ℕ)
past_fault past w = first_fault_in first_unfit_back undone past w

-- the first fault of a future
abbrev pub future_fault : List Record → World → Option (ℕ × ℕ)
future_fault future w = first_fault_in first_unfit_on redone future w

-- the first fault of a past, the newest record first, and of a future, the next one first, whose numbers go on
abbrev pub first_fault : (past future : List Record) → World → Option (ℕ × ℕ)
first_fault past future w = option_or (past_fault past w) (option_map (λ p. (length past + p.0, p.1)) (future_fault future w))
