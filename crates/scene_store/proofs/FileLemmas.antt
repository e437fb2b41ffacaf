-- What an open finds of a store in its files, and a close leaves of it.
use Rattle.std.proofs.Common.{◌≡◌, ◌⊎◌, ℕ, ◌≤◌, zero-add, get_or, true, ◌&&◌, ap₂, List, [], ◌∷◌, length, filter, inl, inr, sym, ap, subst, ◌∙◌, arith, Result, Ok, Err, IfOk, OnOk, IsOkAnd}
use Rattle.std.proofs.Math.Logic.{∥∥₁_elim}
use Rattle.std.specs.List.{AllZip, concat}
use Rattle.sqlite_value.specs.Order.{Row}
use Rattle.std.proofs.lemmas.List.{ext_get_or}
use Rattle.sqlite_disk.specs.Disk.{Holds}
use Rattle.sqlite_disk.specs.declared.Disk as disk
use Rattle.sqlite_disk.specs.declared.Files.{Files}
use Rattle.sqlite_wal.specs.Recovery.{Image}
use Rattle.sqlite_wal.specs.Reads.{AreClean}
use Rattle.sqlite_trees.specs.Tree.{Trees}
use Rattle.sqlite_trees.specs.Objects.{catalog_tree}
use Rattle.sqlite_trees.specs.Props.{Trees-set}
use Rattle.sqlite_trees.proofs.Doubt.{no_doubt}
use Rattle.sqlite.proofs.OpenLemmas.{pool_files}
use Rattle.sqlite_catalog.specs.Listing.{is_table_row, IsSound, IsTableRow}
use Rattle.sqlite_store.specs.declared.store.FileStore.{FileStore}
use Rattle.sqlite.specs.Closing.{IsCopied}
use Rattle.sqlite.specs.Effect.{Database}
use Rattle.sqlite.specs.Files.{file_state, over_files, AreFoundIn, IsOpened}
use Rattle.sqlite.specs.Held.{Held}
use Rattle.sqlite.specs.Start.{FindsIn}
use Rattle.sqlite.specs.State.{HasCleanDisk, IsLive}
use Rattle.scene_store.specs.declared.fault.StoreFault.{StoreFault}
use Rattle.scene_store.specs.declared.store.Store.{Store}
use Rattle.scene_store.specs.Files.{HasText, HoldsText, IsNewFile, OpensOn, LeavesAlone}
use Rattle.scene_store.specs.Head.{head_line}
use Rattle.scene_store.specs.Store.{no_schema, store_schema, within, HasBatches, Holds as HoldsBatches, Keeps, StartsIdle}

-- no list goes with none and with one
both_long : {A B C : Type 0} (P : A → B → Type 0) (Q : A → C → Type 0) (xs : List A) (c : C) → AllZip P xs [] → AllZip Q xs (c ∷ []) → ⊥
both_long P Q [] c none one = one
both_long P Q (x ∷ xs) c none one = none

-- no database has both schemas
one_schema : (db : Trees) → IsSound no_schema db → IsSound store_schema db → ⊥
one_schema db none store = both_long _ _ _ _ none.lists.listed.tables store.lists.listed.tables

-- a database that lists nothing has not that of a store
unlisted : (db : Trees) → db catalog_tree ≡ [] → IsSound store_schema db → ⊥
unlisted db empty store = go (db catalog_tree) empty store.lists.listed.tables
  where
    go : (rows : List Row) → rows ≡ [] → AllZip IsTableRow (filter is_table_row rows) store_schema.tables → ⊥
    go [] same zip = zip
    go (r ∷ rows) same zip = absurd (let e = same in cc)

-- an empty file has no pages
found_empty : (image : Image) (db : Trees) → IsNewFile image → AreFoundIn image db → db catalog_tree ≡ []
found_empty image db none (inl found) = absurd (let present = found.3.found.present in omega (arith, present, ap length none))
found_empty image db none (inr empty) = empty.1.1

-- a file that was empty has just the bytes that were written at its beginning
pub written : (file bytes : List ℕ) → Holds file 0 bytes → length file ≤ length bytes → file ≡ bytes
written file bytes holds short = ext_get_or 0 file bytes (omega (arith, holds.within)) (λ i low. subst (λ k. get_or file k 0 ≡ get_or bytes i 0) (zero-add i) (holds.each i (omega (arith, holds.within, low))))

module _ {D : Type 0} {g : disk.Ghosts D} where
  -- files that are always clean leave a connection clean
  pub clean_files : ((d : D) → g.is_clean d ≡ true) → (c : Held (FileStore D g)) → HasCleanDisk (file_state c)
  clean_files clean c = no_doubt _ ((pool_files c.store.pool).1 ∙ ap₂ (λ a b. a && b) (clean _) (clean _))

  -- a close of a store leaves what it keeps in the database file
  pub closes : (store : Store (FileStore D g)) (files : Files D) → IsLive (within over_files store) → (AreClean g files.log files.db → IsCopied store.conn files) → LeavesAlone store files
  closes store files live copied clean text keeps =
      let done = copied clean in
      let was = keeps done.was_clean in
      let db = (within over_files store).committed in
      let schema : db.schema ≡ store_schema = ap (λ (d : Database). d.schema) was.1.committed ∙ was.1.schema in
      let has : HasText db.trees text = record {
        sound = subst (λ s. IsSound s db.trees) schema (live done.was_open).1;
        batches = was.0;
        rows = subst (λ (d : Database). HasBatches d.trees was.0) (sym was.1.committed) was.1.rows;
        whole = was.2;
      } in
      (record { db = db.trees; found = done.seen.alone; store = has }, λ image left. record { db = db.trees; found = (done.left image left).alone; store = has })

  module _ (conn : Held (FileStore D g)) (image : Image) (clean : HasCleanDisk (file_state conn)) (opened : IsOpened conn) (found : FindsIn image (file_state conn)) where
    -- a connection to files that held a store is one to its database
    finds : (text : List ℕ) → HoldsText image text → HasText (file_state conn).now.trees text
    finds text held =
        let same : (file_state conn).committed.trees ≡ held.db = ∥∥₁_elim held.found (Trees-set _ _) (found.holds held.db) in
        let now : (file_state conn).now.trees ≡ held.db = ap (λ (d : Database). d.trees) opened.0.clean ∙ same in
        subst (λ db. HasText db text) (sym now) held.store

    -- and one to an empty file is one to a database that lists nothing
    finds_nothing : IsNewFile image → (file_state conn).now.trees catalog_tree ≡ []
    finds_nothing none =
        ap (λ (d : Database). d.trees catalog_tree) opened.0.clean ∙ found_empty image (file_state conn).committed.trees none found.reads

    sound : IsSound (file_state conn).now.schema (file_state conn).now.trees
    sound = (opened.1 opened.0.is_open).0

    -- so what is made a store of it or taken as one
    known_store : (text : List ℕ) → HoldsText image text → (file_state conn).now.schema ≡ store_schema → (batches : List (List ℕ)) × HoldsBatches (file_state conn) batches × (concat batches ≡ text)
    known_store text held schema =
        let has = finds text held in
        (has.batches, record { schema = schema; rows = has.rows; committed = sym opened.0.clean; autocommit = opened.0.autocommit }, has.whole)

    known_other : (text : List ℕ) → HoldsText image text → (file_state conn).now.schema ≡ no_schema → ⊥
    known_other text held schema = one_schema (file_state conn).now.trees (subst (λ s. IsSound s (file_state conn).now.trees) schema sound) (finds text held).sound

    new_other : IsNewFile image → (file_state conn).now.schema ≡ store_schema → ⊥
    new_other none schema = unlisted (file_state conn).now.trees (finds_nothing none) (subst (λ s. IsSound s (file_state conn).now.trees) schema sound)

    -- what is taken as a store keeps what the files held
    pub reads_known : (store : Store (FileStore D g)) → (file_state conn).now.schema ≡ store_schema → store.conn ≡ conn → (text : List ℕ) → HoldsText image text → Keeps over_files store text
    reads_known store schema same text held still =
        let it = known_store text held schema in
        (it.0, subst (λ c. HoldsBatches (file_state c) it.0) (sym same) it.1, it.2)

  -- so a store that is opened keeps what its files held, and a new one the head
  pub opens : (conn : Held (FileStore D g)) (store : Store (FileStore D g)) (image : Image) → (HasCleanDisk (within over_files store) → HasCleanDisk (file_state conn))
      → (HasCleanDisk (file_state conn) → IsOpened conn) → (HasCleanDisk (file_state conn) → FindsIn image (file_state conn))
      → ((file_state conn).now.schema ≡ no_schema) ⊎ ((file_state conn).now.schema ≡ store_schema)
      → ((file_state conn).now.schema ≡ no_schema → StartsIdle (file_state conn) → Keeps over_files store head_line)
      → ((file_state conn).now.schema ≡ store_schema → store.conn ≡ conn) → OpensOn image store
  opens conn store image early opened found (inl none) made there = (
    λ text held clean. absurd (known_other conn image (early clean) (opened (early clean)) (found (early clean)) text held none),
    λ new. made none (λ clean. (sym (opened clean).0.clean, (opened clean).0.autocommit)),
  )
  opens conn store image early opened found (inr schema) made there = (
    λ text held clean. reads_known conn image (early clean) (opened (early clean)) (found (early clean)) store schema (there schema) text held clean,
    λ new clean. absurd (new_other conn image (early clean) (opened (early clean)) (found (early clean)) new schema),
  )

  -- the same of what `over` gives
  pub opens_over : (conn : Held (FileStore D g)) (image : Image) (r : Result (Store (FileStore D g)) StoreFault) → (HasCleanDisk (file_state conn) → IsOpened conn)
      → (HasCleanDisk (file_state conn) → FindsIn image (file_state conn)) → OnOk r (((file_state conn).now.schema ≡ no_schema) ⊎ ((file_state conn).now.schema ≡ store_schema))
      → IfOk r (λ store. HasCleanDisk (within over_files store) → HasCleanDisk (file_state conn))
      → ((file_state conn).now.schema ≡ no_schema → StartsIdle (file_state conn) → IfOk r (λ store. Keeps over_files store head_line))
      → ((file_state conn).now.schema ≡ store_schema → IsOkAnd r (λ store. store.conn ≡ conn)) → IfOk r (OpensOn image)
  opens_over conn image (Err fault) opened found known early made there = tt
  opens_over conn image (Ok store) opened found known early made there = opens conn store image early opened found known made there
