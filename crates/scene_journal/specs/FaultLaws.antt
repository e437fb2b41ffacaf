-- The laws: each test passes just where the record that it decides holds, and each function finds just the fault that
-- its relation names.
use Rattle.std.specs.Prelude.{◌≡◌, ◌↔◌, IsTrue, List, Option, Some, None}
use Rattle.scene_model.specs.World.{World}
use Rattle.scene_journal.specs.Faults.{IsFaultOn, IsFaultBack}
use Rattle.scene_journal.specs.Records.{Record, RecordFitsOn, RecordFitsBack}
use Rattle.scene_journal.specs.Unfit.{first_unfit_on, first_unfit_back, record_fits_on, record_fits_back}
use Rattle.scene_journal.specs.FirstFaults.{PastFits, FutureFits, IsPastFault, IsFutureFault, IsFaultOf, past_fault, future_fault, first_fault}

-- of one record
pub record RecordsAreTested : Type 0 where
  pub on : (r : Record) (w : World) → IsTrue (record_fits_on r w) ↔ RecordFitsOn r w
  pub back : (r : Record) (w : World) → IsTrue (record_fits_back r w) ↔ RecordFitsBack r w

-- a function finds nothing just where all is good, and else just what is at fault
pub record Finds {X : Type 0} (found : Option X) (Good : Type 0) (IsBad : X → Type 0) : Type 0 where
  pub none : (found ≡ None) ↔ Good
  pub some : (x : X) → (found ≡ Some x) ↔ IsBad x

-- the first fault of one record
pub record RecordFaultsAreFound : Type 0 where
  pub on : (r : Record) (w : World) → Finds (first_unfit_on r w) (RecordFitsOn r w) (IsFaultOn r w)
  pub back : (r : Record) (w : World) → Finds (first_unfit_back r w) (RecordFitsBack r w) (IsFaultBack r w)

-- the first fault of records one after another
pub record FirstFaultsAreFound : Type 0 where
  pub past : (rs : List Record) (w : World) → Finds (past_fault rs w) (PastFits rs w) (λ p. IsPastFault rs w p.0 p.1)
  pub future : (rs : List Record) (w : World) → Finds (future_fault rs w) (FutureFits rs w) (λ p. IsFutureFault rs w p.0 p.1)
  pub both : (past future : List Record) (w : World)
      → Finds (first_fault past future w) (PastFits past w × FutureFits future w) (λ p. IsFaultOf past future w p.0 p.1)
