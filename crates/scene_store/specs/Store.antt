-- The database of a store of lines, and which lines it keeps.
use Rattle.std.specs.Prelude.{⊤, IsTrue, ◌⊎◌, ◌≡◌, ℕ, suc, pos, true, false, List, [], ◌∷◌, ◌++◌, Some, codes}
use Rattle.sqlite.specs.Collation.TheVariants.{Binary}
use Rattle.sqlite.specs.declared.types.Value.TheVariants.{Null, Int, Blob as Bytes}
use Rattle.std.specs.List.{concat}
use Rattle.std.specs.List.Sorted.{IsPermutation}
use Rattle.sqlite.specs.Order.{Row, column}
use Rattle.sqlite.specs.Tree.{Trees}
use Rattle.sqlite.specs.Table.{Table}
use Rattle.sqlite.specs.Schema.{Schema}
use Rattle.sqlite.specs.Kind.TheVariants.{Integer, Blob}
use Rattle.sqlite.specs.Store.{Ghosts}
use Rattle.sqlite.specs.State.{State, HasCleanDisk, IsUnchanged, IsRolledBack}
use Rattle.sqlite.specs.Held.{state}
use Rattle.scene_store.specs.declared.store.Store.{Store}
use Rattle.scene_store.specs.Head.{head_line}

-- ---- the texts of its statements

-- the table of a new store
abbrev pub table_text : List ℕ
table_text = codes "CREATE TABLE batch (number INTEGER PRIMARY KEY, lines BLOB NOT NULL) STRICT"

-- a row is added behind the others
abbrev pub add_text : List ℕ
add_text = codes "INSERT INTO batch (lines) VALUES (?1)"

-- all rows
abbrev pub all_text : List ℕ
all_text = codes "SELECT number, lines FROM batch"

-- no row is left
abbrev pub clear_text : List ℕ
clear_text = codes "DELETE FROM batch"

-- ---- its database

-- the table of a store: each commit's lines are a row
abbrev pub batch_table : Table
batch_table = record {
  name = codes "batch";
  tree = 0;
  columns = (record { name = codes "number"; kind = Integer; is_strict = true; not_null = false; default = Null; collation = Binary })
      ∷ (record { name = codes "lines"; kind = Blob; is_strict = true; not_null = true; default = Null; collation = Binary }) ∷ [];
  key = Some 0;
  primary = 0 ∷ [];
  uniques = [];
  orders = [];
  checks = [];
  references = [];
  computed = [];
  stamps = record { places = []; terms = []; formats = [] };
  is_counted = false;
}

-- the table has no rule but its key and its columns
pub record IsPlainTable (table : Table) : Type 0 where
  pub uniques : table.uniques ≡ []
  pub orders : table.orders ≡ []
  pub checks : table.checks ≡ []
  pub references : table.references ≡ []
  pub computed : table.computed ≡ []
  pub stamps : table.stamps ≡ batch_table.stamps

-- the schema of a store
abbrev pub store_schema : Schema
store_schema = record { tables = batch_table ∷ []; indexes = []; views = [] }

-- the schema of a database with no table
abbrev pub no_schema : Schema
no_schema = record { tables = []; indexes = []; views = [] }

-- the row of this number as it is stored
abbrev pub row_of : ℕ → List ℕ → Row
row_of n lines = Int (pos n) ∷ Null ∷ Bytes lines ∷ []

-- the rows of these batches, numbered from n on
abbrev pub rows_from : ℕ → List (List ℕ) → List Row
rows_from n [] = []
rows_from n (lines ∷ more) = row_of n lines ∷ rows_from (suc n) more

-- the table has just these batches, in whatever order its rows lie: a row's number says its place
abbrev pub HasBatches : Trees → List (List ℕ) → Type 0
HasBatches trees batches = IsPermutation (rows_from 1 batches) (trees 0)

-- the database is a store that has just these batches, and they are committed
pub record Holds (s : State) (batches : List (List ℕ)) : Type 0 where
  pub schema : s.now.schema ≡ store_schema
  pub rows : HasBatches s.now.trees batches
  pub committed : s.committed ≡ s.now
  pub autocommit : s.in_transaction ≡ false

-- the k-th row that a query shows has the number n + k and the k-th batch
abbrev pub AreShown : ℕ → List Row → List (List ℕ) → Type 0
AreShown n [] [] = ⊤
AreShown n [] (lines ∷ more) = ⊥
AreShown n (row ∷ rows) [] = ⊥
AreShown n (row ∷ rows) (lines ∷ more) = (column row 0 ≡ Int (pos n)) × (column row 1 ≡ Bytes lines) × AreShown (suc n) rows more

-- a row that a query shows has this number and these lines
abbrev pub IsShown : ℕ → Row → List ℕ → Type 0
IsShown number row lines = (column row 0 ≡ Int (pos number)) × (column row 1 ≡ Bytes lines)

-- the lines of a row are added, which has this number
abbrev pub AddsRow : ℕ → Row → List ℕ → List ℕ → Type 0
AddsRow number row old new = (lines : List ℕ) × IsShown number row lines × (new ≡ old ++ lines)

-- the rows that a query shows hold just this text
abbrev pub HoldText : List Row → List ℕ → Type 0
HoldText rows text = (batches : List (List ℕ)) × AreShown 1 rows batches × (text ≡ concat batches)

-- ---- the store

-- nothing was made of the database, or what was not committed was taken back
abbrev pub IsQuiet : State → State → Type 0
IsQuiet old new = IsUnchanged old new ⊎ IsRolledBack old new

-- nothing is under way, so what is seen is what is committed
abbrev pub IsIdle : State → Type 0
IsIdle s = (s.committed ≡ s.now) × (s.in_transaction ≡ false)

-- so it is where the disk has returned what was written, as after an open
abbrev pub StartsIdle : State → Type 0
StartsIdle s = HasCleanDisk s → IsIdle s

-- what a commit of these lines leaves: the batches of before with the lines as one more
abbrev pub LeavesMore : State → List ℕ → Trees → Type 0
LeavesMore old lines trees = (batches : List (List ℕ)) → Holds old batches → HasBatches trees (batches ++ lines ∷ [])

-- what the commit that makes a store leaves, where there was nothing: the head
abbrev pub LeavesHead : State → Trees → Type 0
LeavesHead old trees = old.now.schema ≡ no_schema → HasBatches trees (head_line ∷ [])

-- what a commit of these lines in place of the others leaves: the head, and the lines
abbrev pub LeavesOthers : State → List ℕ → Trees → Type 0
LeavesOthers old lines trees = (batches : List (List ℕ)) → Holds old batches → HasBatches trees (head_line ∷ lines ∷ [])

module _ {S : Type 0} (g : Ghosts S) where
  -- what the database of a store is
  abbrev pub within : Store S → State
  within store = state g store.conn

  -- Where the disk has returned what was written, the store keeps just this text, all of it committed.
  abbrev pub Keeps : Store S → List ℕ → Type 0
  Keeps store text = HasCleanDisk (within store) → (batches : List (List ℕ)) × Holds (within store) batches × (concat batches ≡ text)

  -- The disk always returns what was written.
  abbrev pub IsAlwaysClean : Type 0
  IsAlwaysClean = (store : Store S) → HasCleanDisk (within store)

  -- What the one kept the other keeps.
  abbrev pub KeepsOn : Store S → Store S → Type 0
  KeepsOn old new = (text : List ℕ) → Keeps old text → Keeps new text

  -- The same, unless the database was shut.
  abbrev pub KeepsIfOpen : Store S → Store S → Type 0
  KeepsIfOpen old new = IsTrue (within new).is_open → KeepsOn old new

  -- It is a store, whatever it keeps.
  abbrev pub IsStore : Store S → Type 0
  IsStore store = HasCleanDisk (within store) → ((within store).now.schema ≡ store_schema) × IsIdle (within store)
