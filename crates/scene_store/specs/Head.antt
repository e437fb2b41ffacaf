-- The first line of a store, which says of which version it is.
use Rattle.std.specs.Prelude.{⊤, ◌≡◌, ℕ, List, [], ◌∷◌, ◌++◌, length, take, codes, Result, Ok, Err}
use Rattle.scene_store.specs.declared.fault.StoreFault.{StoreFault}
use Rattle.scene_store.specs.declared.fault.StoreFault.TheVariants as store
use Rattle.scene_store.specs.declared.version.Version.{Version}
use Rattle.scene_store.specs.declared.version.Version.TheVariants.{First, Second}
use Rattle.scene_store.specs.declared.rows.StoredLines.{StoredLines}

-- the first line of a store of each version
abbrev pub head_of : Version → List ℕ
head_of First = codes "# scene store 1" ++ 10 ∷ []
head_of Second = codes "# scene store 2" ++ 10 ∷ []

-- that of a new store
abbrev pub head_line : List ℕ
head_line = head_of Second

-- what the first line of a store begins with, whatever its version
abbrev pub head_mark : List ℕ
head_mark = codes "# scene store "

-- how many calls a shell on a store takes
abbrev pub calls_of : Version → ℕ
calls_of First = 1048576
calls_of Second = 18446744073709551615

-- the text begins with these bytes
abbrev pub Begins : List ℕ → List ℕ → Type 0
Begins text start = take (length start) text ≡ start

-- a shell on a store with this text takes so many calls
abbrev pub TakesCalls : List ℕ → ℕ → Type 0
TakesCalls text calls = (version : Version) × Begins text (head_of version) × (calls ≡ calls_of version)

-- the text of a store that is read
abbrev pub IsHeaded : List ℕ → StoredLines → Type 0
IsHeaded text found = (found.text.items ≡ text) × Begins text (head_of found.version)

-- the text of a store of a version that isn't read
abbrev pub IsNewer : List ℕ → Type 0
IsNewer text = Begins text head_mark × ((version : Version) → ¬ Begins text (head_of version))

-- A text is refused as newer only for its version, and as no store's only for a first line that is no head.
abbrev pub MayRefuse : List ℕ → StoreFault → Type 0
MayRefuse text store.NewerStore = IsNewer text
MayRefuse text store.NotAStore = ¬ Begins text head_mark
MayRefuse text store.StoreInUse = ⊥
MayRefuse text (store.StoreUnopened why) = ⊥
MayRefuse text store.NoMemory = ⊤
MayRefuse text store.StoreDamaged = ⊤
MayRefuse text store.DiskFull = ⊤
MayRefuse text store.DiskFault = ⊤

-- which version a text is of
abbrev pub SaysVersion : List ℕ → Result Version StoreFault → Type 0
SaysVersion text (Ok version) = Begins text (head_of version)
SaysVersion text (Err store.NewerStore) = IsNewer text
SaysVersion text (Err store.NotAStore) = ¬ Begins text head_mark
SaysVersion text (Err other) = ⊥

-- how the text of a store is read, once it is at hand
abbrev pub IsReadAs : List ℕ → Result StoredLines StoreFault → Type 0
IsReadAs text (Ok found) = IsHeaded text found
IsReadAs text (Err store.NewerStore) = IsNewer text
IsReadAs text (Err store.NotAStore) = ¬ Begins text head_mark
IsReadAs text (Err other) = ⊥
