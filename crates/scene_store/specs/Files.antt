-- The files of a store: what they hold before it is opened, and what a close leaves.
use Rattle.std.specs.Prelude.{◌≡◌, ℕ, List, []}
use Rattle.std.specs.List.{concat}
use Rattle.sqlite_disk.specs.declared.Disk as disk
use Rattle.sqlite_disk.specs.declared.Files.{Files}
use Rattle.sqlite_wal.specs.Recovery.{Image}
use Rattle.sqlite_wal.specs.Files.{outcomes}
use Rattle.sqlite_wal.specs.Reads.{AreClean}
use Rattle.sqlite_trees.specs.Tree.{Trees}
use Rattle.sqlite_store.specs.declared.store.FileStore.{FileStore}
use Rattle.sqlite_catalog.specs.Listing.{IsSound}
use Rattle.sqlite.specs.Files.{file_state, HoldsDatabase, image_of, over_files, IsOpened}
use Rattle.sqlite.specs.Held.{Held}
use Rattle.sqlite.specs.Start.{FindsIn}
use Rattle.sqlite.specs.State.{HasCleanDisk}
use Rattle.scene_store.specs.declared.store.Store.{Store}
use Rattle.scene_store.specs.Head.{head_line}
use Rattle.scene_store.specs.Store.{store_schema, HasBatches, Keeps}

-- the database is that of a store, which has just this text
pub record HasText (db : Trees) (text : List ℕ) : Type 0 where
  pub sound : IsSound store_schema db
  pub batches : List (List ℕ)
  pub rows : HasBatches db batches
  pub whole : concat batches ≡ text

-- the log and the database file hold a store, which has just this text
pub record HoldsText (image : Image) (text : List ℕ) : Type 0 where
  pub db : Trees
  pub found : ∥ HoldsDatabase image db ∥₁
  pub store : HasText db text

-- there is no database file yet, or an empty one
abbrev pub IsNewFile : Image → Type 0
IsNewFile image = image.db ≡ []

module _ {D : Type 0} {g : disk.Ghosts D} where
  -- where the disk has returned what was written, a connection is as an open leaves it
  abbrev pub IsAsOpened : Held (FileStore D g) → Type 0
  IsAsOpened conn = HasCleanDisk (file_state conn) → IsOpened conn

  -- and it finds what the files held
  abbrev pub FindsFiles : Image → Held (FileStore D g) → Type 0
  FindsFiles image conn = HasCleanDisk (file_state conn) → FindsIn image (file_state conn)

  -- A store that was opened on such files keeps what they held. In place of no file, or an empty one, it keeps just the
  -- head.
  abbrev pub OpensOn : Image → Store (FileStore D g) → Type 0
  OpensOn image store = ((text : List ℕ) → HoldsText image text → Keeps over_files store text) × (IsNewFile image → Keeps over_files store head_line)

  -- With what the store keeps the database file alone is left, with no log, and so it is after a crash.
  abbrev pub LeavesAlone : Store (FileStore D g) → Files D → Type 0
  LeavesAlone store files =
      AreClean g files.log files.db → (text : List ℕ) → Keeps over_files store text
      → HoldsText (record { log = []; db = (image_of g files).db }) text
      × ((image : Image) → outcomes g files.log files.db image → HoldsText (record image { log = [] }) text)
