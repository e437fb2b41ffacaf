-- What statements in one transaction make of a store, and what its commit leaves of that.
use Rattle.std.proofs.Common.{◌≡◌, ℕ, List, [], ◌∷◌, ◌++◌, Ok, refl, sym, ap, subst, ◌∙◌, arith}
use Rattle.std.specs.Prelude.{IsTrue, true, false}
use Rattle.sqlite.specs.declared.types.Value.TheVariants.{Blob}
use Rattle.sqlite.specs.Effect.{Database}
use Rattle.sqlite.specs.Held.{Held, state}
use Rattle.sqlite.specs.Order.{Row}
use Rattle.sqlite.specs.State.{State, ExecutesInside, HasCleanDisk, Shows, Survives}
use Rattle.sqlite.specs.Store.{Ghosts}
use Rattle.sqlite.specs.Tree.{Trees}
use Rattle.sqlite.proofs.Callers.{survives_begin}
use Rattle.sqlite.proofs.StateLemmas.{survives_then}
use Rattle.scene_store.specs.Store.{add_text, clear_text, no_schema, store_schema, table_text, HasBatches, Holds}
use Rattle.scene_store.proofs.ClearLemmas.{clears}
use Rattle.scene_store.proofs.StoreLemmas.{adds_inside, creates_inside}

-- a statement ran, so many rows went through it, and no commit came of it
pub record Ran (text : List ℕ) (params : Row) (count : ℕ) (old new : State) : Type 0 where
  pub runs : HasCleanDisk new → IsTrue old.in_transaction → ExecutesInside 0 text params old new (Ok count)
  pub survives : Survives old new (λ _. ⊥)

-- the database has no table
abbrev pub IsBare : Database → Type 0
IsBare db = db.schema ≡ no_schema

-- it has the table of a store, with just these batches
abbrev pub Has : List (List ℕ) → Database → Type 0
Has batches db = (db.schema ≡ store_schema) × HasBatches db.trees batches

-- it has that table, whatever is in it
abbrev pub HasTable : Database → Type 0
HasTable db = (batches : List (List ℕ)) × Has batches db

-- statements that ran since a transaction began have made these batches of what was there
pub record Makes (Before : Database → Type 0) (batches : List (List ℕ)) (old new : State) : Type 0 where
  pub made : HasCleanDisk new → IsTrue old.in_transaction → Before old.now → Has batches new.now
  pub mode : HasCleanDisk new → IsTrue old.in_transaction → IsTrue new.in_transaction
  pub survives : Survives old new (λ _. ⊥)

-- the table is made
pub creates : (old new : State) (count : ℕ) → Ran table_text [] count old new → Makes IsBare [] old new
creates old new count ran = record {
  made = λ clean within none. creates_inside old new count none (ran.runs clean within).0;
  mode = λ clean within. subst IsTrue (sym (ran.runs clean within).1.mode) refl;
  survives = ran.survives;
}

-- no row is left
pub empties : (old new : State) (count : ℕ) → Ran clear_text [] count old new → Makes HasTable [] old new
empties old new count ran = record {
  made = λ clean within has. clears old new has.0 count has.1.0 has.1.1 (ran.runs clean within).0;
  mode = λ clean within. subst IsTrue (sym (ran.runs clean within).1.mode) refl;
  survives = ran.survives;
}

-- and then a row is added
pub and_adds : (Before : Database → Type 0) (batches : List (List ℕ)) (lines : List ℕ) (count : ℕ) (old mid new : State) → Makes Before batches old mid
    → Ran add_text (Blob lines ∷ []) count mid new → Makes Before (batches ++ lines ∷ []) old new
and_adds Before batches lines count old mid new so ran =
    let early : HasCleanDisk new → HasCleanDisk mid = λ clean. omega (arith, ran.survives.clean, clean) in
    record {
      made = λ clean within before.
          let has = so.made (early clean) within before in
          adds_inside mid new batches lines count has.0 has.1 (ran.runs clean (so.mode (early clean) within)).0;
      mode = λ clean within. subst IsTrue (sym (ran.runs clean (so.mode (early clean) within)).1.mode) refl;
      survives = survives_then old mid new _ _ (λ _. ⊥) (λ _ db no. no) (λ _ db no. no) so.survives ran.survives;
    }

module _ {S : Type 0} (g : Ghosts S) (old tx : Held S) (begun : tx ≡ record old { in_transaction = true }) (Before : Database → Type 0)
    (batches : List (List ℕ)) (last new : State) (makes : Makes Before batches (state g tx) last) where
  from_old : Makes Before batches (state g (record old { in_transaction = true })) last
  from_old = subst (λ (h : Held S). Makes Before batches (state g h) last) begun makes

  -- behind the commit that is what the store holds
  pub commits : HasCleanDisk last → Shows last new last.now last.now false → Before (state g old).now → Holds new batches
  commits clean shown before =
      let made = from_old.made clean refl before in
      record {
        schema = ap (λ (d : Database). d.schema) shown.now_is ∙ made.0;
        rows = subst (λ (d : Database). HasBatches d.trees batches) (sym shown.now_is) made.1;
        committed = shown.committed_is ∙ sym shown.now_is;
        autocommit = shown.mode;
      }

  -- and a crash leaves it, or what could be left before
  pub crashes : (P : Trees → Type 0) → Survives last new (λ db. db ≡ last.now.trees) → ((db : Trees) → (Before (state g old).now → HasBatches db batches) → P db)
      → Survives (state g old) new P
  crashes P commit leaves =
      survives_then (state g old) last new _ _ P (λ _ db no. absurd no)
      (λ clean db is. leaves db (λ before. subst (λ t. HasBatches t batches) (sym is) (from_old.made (omega (arith, commit.clean, clean)) refl before).1))
      (survives_begin g old last _ from_old.survives) commit
