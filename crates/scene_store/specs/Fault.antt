-- The numbers, names and causes of a store's faults, and which fault an error of the database is.
use Rattle.std.specs.Prelude.{⊤, ℕ, List, codes}
use Rattle.sqlite.specs.declared.error.Error.{Error}
use Rattle.sqlite.specs.declared.error.Error.TheVariants.{SqliteFailure}
use Rattle.sqlite.specs.declared.error.ErrorCode.TheVariants as code
use Rattle.scene_store.specs.declared.fault.OpenFault.{OpenFault}
use Rattle.scene_store.specs.declared.fault.OpenFault.TheVariants as opening
use Rattle.scene_store.specs.declared.fault.StoreFault.{StoreFault}
use Rattle.scene_store.specs.declared.fault.StoreFault.TheVariants as store

-- the number of each fault of a store
abbrev pub store_number : StoreFault → ℕ
store_number store.NoMemory = 20
store_number store.StoreInUse = 60
store_number store.NotAStore = 61
store_number store.StoreDamaged = 62
store_number store.NewerStore = 63
store_number (store.StoreUnopened why) = 64
store_number store.DiskFull = 65
store_number store.DiskFault = 66

-- and its name
abbrev pub store_name : StoreFault → List ℕ
store_name store.NoMemory = codes "NoMemory"
store_name store.StoreInUse = codes "StoreInUse"
store_name store.NotAStore = codes "NotAStore"
store_name store.StoreDamaged = codes "StoreDamaged"
store_name store.NewerStore = codes "NewerStore"
store_name (store.StoreUnopened why) = codes "StoreUnopened"
store_name store.DiskFull = codes "DiskFull"
store_name store.DiskFault = codes "DiskFault"

-- why the system doesn't open a file, in words
abbrev pub open_reason : OpenFault → List ℕ
open_reason opening.NoFile = codes "there is no such file"
open_reason opening.FileThere = codes "there is such a file already"
open_reason opening.NoRights = codes "there are no rights to it, or to its folder"
open_reason opening.HardLink = codes "it has another name too, a hard link"
open_reason opening.NotAFile = codes "it isn't a file"
open_reason opening.BadPath = codes "no file can have this name"
open_reason opening.HasJournal = codes "SQLite left a journal beside it"
open_reason opening.Other = codes "the system doesn't open it"

-- the cause of each fault in words
abbrev pub store_reason : StoreFault → List ℕ
store_reason store.NoMemory = codes "no memory was found"
store_reason store.StoreInUse = codes "another program has it open"
store_reason store.NotAStore = codes "it isn't a store"
store_reason store.StoreDamaged = codes "its bytes aren't those that were written"
store_reason store.NewerStore = codes "it is a store of a newer version"
store_reason (store.StoreUnopened why) = open_reason why
store_reason store.DiskFull = codes "the disk is full"
store_reason store.DiskFault = codes "the disk failed"

-- Memory and the disk have faults of their own. Any other error of a statement says that the store isn't what it was.
abbrev pub statement_fault : Error → StoreFault
statement_fault (SqliteFailure code.OutOfMemory) = store.NoMemory
statement_fault (SqliteFailure code.DiskFull) = store.DiskFull
statement_fault (SqliteFailure code.TooBig) = store.DiskFull
statement_fault (SqliteFailure code.SystemIoFailure) = store.DiskFault
statement_fault (SqliteFailure code.Closed) = store.DiskFault
statement_fault _ = store.StoreDamaged

-- An open may also find no database, a lock, or nothing that it can open, for this reason.
abbrev pub open_fault : Error → OpenFault → StoreFault
open_fault (SqliteFailure code.NotADatabase) why = store.NotAStore
open_fault (SqliteFailure code.DatabaseBusy) why = store.StoreInUse
open_fault (SqliteFailure code.CannotOpen) why = store.StoreUnopened why
open_fault other why = statement_fault other

-- a fault of the memory or the disk, which any use of a store may meet
abbrev pub IsOfUse : StoreFault → Type 0
IsOfUse store.NoMemory = ⊤
IsOfUse store.StoreDamaged = ⊤
IsOfUse store.DiskFull = ⊤
IsOfUse store.DiskFault = ⊤
IsOfUse store.StoreInUse = ⊥
IsOfUse store.NotAStore = ⊥
IsOfUse store.NewerStore = ⊥
IsOfUse (store.StoreUnopened why) = ⊥
