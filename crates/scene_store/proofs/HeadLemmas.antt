-- What a text that begins with a head is read as.
use Rattle.std.proofs.Common.{ℕ, List, Result, Ok, Err, IfOk, IfErr}
use Rattle.scene_store.specs.declared.fault.StoreFault.{StoreFault}
use Rattle.scene_store.specs.declared.fault.StoreFault.TheVariants.{NoMemory, StoreInUse, NotAStore, StoreDamaged, NewerStore, StoreUnopened, DiskFull, DiskFault}
use Rattle.scene_store.specs.declared.version.Version.{Version}
use Rattle.scene_store.specs.declared.version.Version.TheVariants.{First, Second}
use Rattle.scene_store.specs.declared.rows.StoredLines.{StoredLines}
use Rattle.scene_store.specs.Fault.{IsOfUse}
use Rattle.scene_store.specs.Head.{head_of, Begins, IsHeaded, IsReadAs, MayRefuse}

-- a text that begins with the head of neither version begins with none
pub neither : (text : List ℕ) → ¬ Begins text (head_of First) → ¬ Begins text (head_of Second) → (version : Version) → ¬ Begins text (head_of version)
neither text first second First = first
neither text first second Second = second

-- what is read has a head
pub read_ok : (text : List ℕ) (r : Result StoredLines StoreFault) → IsReadAs text r → IfOk r (IsHeaded text)
read_ok text (Ok found) read = read
read_ok text (Err fault) read = tt

-- and what is refused has none that is read
pub read_err : (text : List ℕ) (r : Result StoredLines StoreFault) → IsReadAs text r → IfErr r (MayRefuse text)
read_err text (Ok found) read = tt
read_err text (Err NewerStore) read = read
read_err text (Err NotAStore) read = read
read_err text (Err NoMemory) read = tt
read_err text (Err StoreInUse) read = read
read_err text (Err StoreDamaged) read = tt
read_err text (Err (StoreUnopened why)) read = read
read_err text (Err DiskFull) read = tt
read_err text (Err DiskFault) read = tt

-- a fault of the disk or the memory may come with any text
pub in_use : (text : List ℕ) (fault : StoreFault) → IsOfUse fault → MayRefuse text fault
in_use text NewerStore of = absurd of
in_use text NotAStore of = absurd of
in_use text NoMemory of = tt
in_use text StoreInUse of = of
in_use text StoreDamaged of = tt
in_use text (StoreUnopened why) of = of
in_use text DiskFull of = tt
in_use text DiskFault of = tt
