-- What the three statements of a store do.
use Rattle.std.proofs.Common.{append_assoc, OnErr, IsTrue, append-nil, IfOk, IsOkAnd, Option, zero, get_or, ◌≡◌, fold, ◌+ℤ◌, add-zero, ◌⊎◌, inl, inr, ℕ, suc, ◌+◌, ◌<◌, pos, negsuc, List, [], ◌∷◌, ◌++◌, length, map, codes, Bool, true, false, cond, not, ◌&&◌, ◌||◌, ℤ, Some, None, Ok, Err, Result, take, length-take, OnOk, refl, sym, ap, subst, subst₂, ◌∙◌, arith}
use Rattle.std.proofs.lemmas.List.Elements.{Contains-get_or}
use Rattle.std.proofs.lemmas.Cmp.{tied_itself}
use Rattle.std.specs.Ordering.{is_eq, match_ordering}
use Rattle.std.specs.declared.cmp.Ordering.{Ordering}
use Rattle.std.specs.declared.cmp.Ordering.TheVariants.{Less, Equal, Greater}
use Rattle.sqlite_value.proofs.OrderLemmas.{value_cmp_total}
use Rattle.std.specs.List.Sorted.{IsPermutation}
use Rattle.std.specs.List.{All, AllByRecursion, flat_map, list_any, concat}
use Rattle.std.proofs.lemmas.List.{take_more, ext_get_or, get_or-map, length-map}
use Rattle.std.proofs.lemmas.List.Sorted.{IsPermutation-refl, IsPermutation-sym, IsPermutation-cons, IsPermutation-to_front, IsPermutation-middle, Contains-permutation, list_any-IsPermutation, IsPermutation-map, IsPermutation-trans, All-permutation, length_permutation}
use Rattle.sqlite.specs.declared.types.Value.{Value}
use Rattle.sqlite.specs.declared.types.Value.TheVariants.{Null, Int, Real, Text, Blob}
use Rattle.sqlite.specs.Order.{Row, value_cmp, column}
use Rattle.sqlite.specs.Term.{Term, lit, col}
use Rattle.sqlite.specs.Ops.{unary, is_null}
use Rattle.sqlite.specs.Query.{Query, inner, end, IsAnswer, output, Output}
use Rattle.sqlite.specs.Program.{overlay}
use Rattle.sqlite.specs.Kind.TheVariants.{Integer, Blob as Bytes}
use Rattle.sqlite.specs.Source.TheVariants.{Values}
use Rattle.sqlite.specs.Command.TheVariants.{Insert, Select, CreateTable}
use Rattle.sqlite.specs.Compile.{table_defined_by}
use Rattle.sqlite.specs.Edit.{edit_of, next_rowid, id_in, is_taken, are_fresh, put_all}
use Rattle.sqlite.specs.Cast.{cast}
use Rattle.sqlite.specs.Rowids.TheVariants.{Chosen}
use Rattle.sqlite.specs.Change.{created, next_tree}
use Rattle.sqlite.specs.Does.{Tally, Does, lacks_sequence}
use Rattle.sqlite.specs.Rows.{Written}
use Rattle.sqlite.specs.Tree.{Trees, put_row, rowid, no_trees}
use Rattle.sqlite_catalog.specs.Listing.{IsSound}
use Rattle.sqlite.specs.declared.run.Mode.{Mode}
use Rattle.sqlite_tied.specs.Compute.{everything}
use Rattle.sqlite.specs.declared.error.Error.{Error}
use Rattle.sqlite.specs.Listing.{understood, reads_listing}
use Rattle.sqlite.specs.Effect.{Database}
use Rattle.sqlite.specs.State.{State, mode_of, Writes, Executes, CommitsBy, Shown, ShowsRows, IsUnchanged, ExecutesIn, IsNotRun, RunsCommand, FailsToQuery, FailsToShow, shows_rows, HasCleanDisk, IsLive, CommitsShowing}
use Rattle.std.proofs.lemmas.Bool.{cases_Bool}
use Rattle.sqlite_resolve.specs.declared.compiled.Compiled.{Compiled}
use Rattle.sqlite_schema.specs.declared.command.Returning.{Returning}
use Rattle.sqlite.specs.Clock.{timed}
use Rattle.sqlite_schema.specs.Rules.{passes, is_of}
use Rattle.sqlite_schema.specs.declared.schema.Constraint.TheVariants.{Datatype, NotNull}
use Rattle.sqlite.specs.Held.{Held, state}
use Rattle.sqlite.specs.Schema.{Schema}
use Rattle.sqlite.specs.Store.{Ghosts}
use Rattle.scene_store.specs.declared.store.Store.{Store}
use Rattle.sqlite.proofs.Callers.{IsPlain, command_of, statement_of, runs_as, reads_as, one_step, never_commits}
use Rattle.scene_store.specs.Head.{head_line}
use Rattle.scene_store.specs.Store.{KeepsIfOpen, IsStore, IsIdle, HoldText, IsShown, AddsRow, table_text, add_text, all_text, IsQuiet, Keeps, within, batch_table, store_schema, no_schema, row_of, rows_from, HasBatches, Holds, AreShown}

abbrev terms : List Term
terms = lit Null ∷ lit Null ∷ col 0 0 ∷ []

abbrev query : Query
query = record {
  from = inner 0 end;
  filter = [];
  group = None;
  project = col 1 0 ∷ col 1 2 ∷ [];
  distinct = false;
  collations = [];
  order = [];
  limit = lit (Int (negsuc 0));
  offset = lit (Int (pos 0));
}

create_is : (command_of (understood no_schema table_text) ≡ CreateTable) × (statement_of table_text (understood no_schema table_text) ≡ table_text) × (table_defined_by table_text ≡ Ok batch_table)
unfolding understood everything
create_is = (refl, refl, refl)

insert_is : command_of (understood store_schema add_text) ≡ Insert 0 (Values terms 3)
unfolding understood everything
insert_is = refl

select_is : (command_of (understood store_schema all_text) ≡ Select (record { lets = []; body = query }) (codes "number" ∷ codes "lines" ∷ [])) × (reads_listing store_schema all_text ≡ false)
unfolding understood everything
select_is = (refl, refl)

create_plain : IsPlain (understood no_schema table_text)
unfolding understood everything
create_plain = (refl, refl)

insert_plain : IsPlain (understood store_schema add_text)
unfolding understood everything
insert_plain = (refl, refl)

select_plain : IsPlain (understood store_schema all_text)
unfolding understood everything
select_plain = (refl, refl)

pub length_rows : (n : ℕ) (batches : List (List ℕ)) → length (rows_from n batches) ≡ length batches
length_rows n [] = refl
length_rows n (lines ∷ more) = ap suc (length_rows (suc n) more)

pub row_at : (n i : ℕ) (batches : List (List ℕ)) (d : Row) → i < length batches → get_or (rows_from n batches) i d ≡ row_of (n + i) (get_or batches i [])
row_at n i [] d h = absurd (omega arith)
row_at n zero (lines ∷ more) d h = ap (λ k. row_of k lines) (sym (add-zero n))
row_at n (suc i) (lines ∷ more) d h = row_at (suc n) i more d (omega arith) ∙ ap (λ k. row_of k (get_or more i [])) (omega arith)

-- the rows of one batch more
more_rows : (n : ℕ) (batches : List (List ℕ)) (lines : List ℕ) → rows_from n (batches ++ lines ∷ []) ≡ rows_from n batches ++ row_of (n + length batches) lines ∷ []
more_rows n [] lines = ap (λ k. row_of k lines ∷ []) (sym (add-zero n))
more_rows n (first ∷ more) lines = ap (λ rows. row_of n first ∷ rows) (more_rows (suc n) more lines ∙ ap (λ k. rows_from (suc n) more ++ row_of k lines ∷ []) (omega arith))

pub any_at : {X : Type 0} (p : X → Bool) (xs : List X) (k : ℕ) (d : X) → k < length xs → p (get_or xs k d) ≡ true → list_any p xs ≡ true
any_at p [] k d low h = absurd (omega arith)
any_at p (x ∷ xs) zero d low h = rw h refl
any_at p (x ∷ xs) (suc k) d low h = or_right (p x) (any_at p xs k d (omega arith) h)
  where
    or_right : (b : Bool) {c : Bool} → c ≡ true → (b || c) ≡ true
    or_right true h = refl
    or_right false h = h

-- the next rowid is one above that of some row, if there is one
next_of : (start : ℤ) (rows : List Row) → (rows ≡ []) ⊎ ((k : ℕ) × (k < length rows) × (fold (λ _ r. id_in (rowid r) +ℤ pos 1) start rows ≡ id_in (rowid (get_or rows k [])) +ℤ pos 1))
next_of start [] = inl refl
next_of start (r ∷ []) = inr (0, omega arith, refl)
next_of start (r ∷ s ∷ more) = elim (next_of (id_in (rowid r) +ℤ pos 1) (s ∷ more)) [
  | inl none ↦ absurd (let e = none in cc)
  | inr it ↦ inr (suc it.0, omega (arith, it.1), it.2)
]

-- where the next rowid is not taken it is the next number
next_number : (batches : List (List ℕ)) (rows : List Row) (new : Row) → IsPermutation (rows_from 1 batches) rows → rowid new ≡ Int (next_rowid rows) → is_taken rows new ≡ false
    → next_rowid rows ≡ pos (1 + length batches)
next_number batches rows new same id free = elim (next_of (pos 1) rows) [
  | inl none ↦
      let empty : length batches ≡ 0 = omega (arith, length_permutation (rows_from 1 batches) rows same, ap length none, length_rows 1 batches) in
      ap next_rowid none ∙ ap (λ k. pos (1 + k)) (sym empty)
  | inr it ↦
      let held = Contains-permutation rows (rows_from 1 batches) (get_or rows it.0 []) (IsPermutation-sym (rows_from 1 batches) rows same) (Contains-get_or rows it.0 [] it.1) in
      let k = held.0 in
      let low : k < length batches = omega (arith, held.1, length_rows 1 batches) in
      let row : get_or rows it.0 [] ≡ row_of (1 + k) (get_or batches k []) = sym held.2 ∙ row_at 1 k batches _ low in
      let next : next_rowid rows ≡ pos ((1 + k) + 1) = it.2 ∙ ap (λ r. id_in (rowid r) +ℤ pos 1) row in
      let last : ¬ (1 + k < length batches) = λ more.
      let there : get_or (rows_from 1 batches) (1 + k) [] ≡ row_of (1 + (1 + k)) (get_or batches (1 + k) []) = row_at 1 (1 + k) batches [] more in
      let number : Int (pos (1 + (1 + k))) ≡ Int (pos ((1 + k) + 1)) = ap (λ j. Int (pos j)) (omega arith) in
      let tied : is_eq (value_cmp (rowid (get_or (rows_from 1 batches) (1 + k) [])) (rowid new)) ≡ true =
      ap is_eq (ap (λ r. value_cmp (rowid r) (rowid new)) there ∙ ap (λ v. value_cmp v (rowid new)) (number ∙ ap Int (sym next) ∙ sym id) ∙ tied_itself value_cmp_total (rowid new)) in
      let taken = any_at (λ r. is_eq (value_cmp (rowid r) (rowid new))) (rows_from 1 batches) (1 + k) [] (omega (arith, length_rows 1 batches)) tied in
      let both : true ≡ false = sym taken ∙ list_any-IsPermutation (λ r. is_eq (value_cmp (rowid r) (rowid new))) (rows_from 1 batches) rows same ∙ free in cc in
      next ∙ ap pos (omega arith)
]

-- a row with a rowid that is not taken is put somewhere among the rows
put_among : (new : Row) (rows : List Row) → is_taken rows new ≡ false → IsPermutation (new ∷ rows) (put_row new rows)
put_among new [] free = IsPermutation-refl (new ∷ [])
put_among new (r ∷ rows) free = let both = rest _ _ free in go both.0 (put_among new rows both.1) (value_cmp (rowid r) (rowid new)) refl
  where
    rest : (a b : Bool) → (a || b) ≡ false → (a ≡ false) × (b ≡ false)
    rest false false e = (refl, refl)
    rest true b e = absurd (let x = e in cc)
    rest false true e = absurd (let x = e in cc)

    go : is_eq (value_cmp (rowid r) (rowid new)) ≡ false → IsPermutation (new ∷ rows) (put_row new rows) → (o : Ordering) → value_cmp (rowid r) (rowid new) ≡ o → IsPermutation (new ∷ r ∷ rows) (match_ordering o (r ∷ put_row new rows) (new ∷ rows) (new ∷ r ∷ rows))
    go first deeper Less e = IsPermutation-trans (new ∷ r ∷ rows) (r ∷ new ∷ rows) (r ∷ put_row new rows) (IsPermutation-sym (r ∷ new ∷ rows) (new ∷ r ∷ rows) (IsPermutation-middle (r ∷ []) new rows)) (IsPermutation-cons r (new ∷ rows) (put_row new rows) deeper)
    go first deeper Equal e = absurd (let t = sym (ap is_eq e) ∙ first in cc)
    go first deeper Greater e = IsPermutation-refl (new ∷ r ∷ rows)

cast_null : cast Integer Null ≡ Null
unfolding unary
cast_null = either _ Null
  where
    either : (b : Bool) (x : Value) → cond b x x ≡ x
    either true x = refl
    either false x = refl

-- a part that gave a value did not stop on the way
pub went : {B E R : Type 0} {b : B} {Stops : E → Type 0} → ((stop : E) × Stops stop × (Ok b ≡ Err stop)) ⊎ R → R
went (inl stopped) = absurd (let e = stopped.2 in cc)
went (inr on) = on

pub same_value : {B E : Type 0} {a b : B} → ◌≡◌ {A = Result B E} (Ok a) (Ok b) → a ≡ b
same_value e = cc

-- what the INSERT makes of the database of a store
does_add : (limit : Option ℕ) (mode : Mode) (db : Database) (lines : List ℕ) (batches : List (List ℕ)) → db.schema ≡ store_schema → HasBatches db.trees batches
    → (text : List ℕ) (tally : Tally) (after : Database) → Does limit mode (Blob lines ∷ []) db text None (Insert 0 (Values terms 3)) (Ok (tally, after))
    → (after.schema ≡ store_schema) × HasBatches after.trees (batches ++ lines ∷ [])
does_add limit mode db lines batches has rows text tally after does =
    let command = Insert 0 (Values terms 3) in
    let done = went (subst (λ s. Does limit mode (Blob lines ∷ []) (record db { schema = s }) text None command (Ok (tally, after))) has does) in
    let now = ap (λ (p : Tally × Database). p.1) (same_value (went (went done.2).2).2) in
    let given = went done.1 in
    let written = went (went given.2).2 in
    let counted = went written.2 in
    let trees : done.0.trees ≡ written.0 = ap (λ (it : Written). it.trees) (same_value counted.2) ∙ same_value counted.1 in
    let made = one_step store_schema _ db.trees written.0 (edit_of db.trees batch_table [] Chosen 0 given.0) refl written.1 in
    let table = db.trees 0 in
    let new : Row = Int (next_rowid table) ∷ Null ∷ Blob lines ∷ [] in
    let news : (edit_of db.trees batch_table [] Chosen 0 given.0).news ≡ new ∷ [] = ap (λ all. (edit_of db.trees batch_table [] Chosen 0 all).news) given.1.1 ∙ rw cast_null refl in
    let free : is_taken table new ≡ false = not_true (is_taken table new) (subst (λ n. are_fresh table n ≡ true) news made.fresh) in
    let edit : after.trees 0 ≡ put_row new table = ap (λ (d : Database). d.trees 0) now ∙ ap (λ (t : Trees). t 0) trees ∙ made.rows ∙ ap (λ n. put_all table n) news in
    let number = next_number batches table new rows refl free in
    let row : new ≡ row_of (1 + length batches) lines = ap (λ k. Int k ∷ Null ∷ Blob lines ∷ []) number in
    let all = IsPermutation-trans (new ∷ rows_from 1 batches) (new ∷ table) (put_row new table) (IsPermutation-cons new (rows_from 1 batches) table rows) (put_among new table free) in
    let last = subst (λ r. IsPermutation (rows_from 1 batches ++ r ∷ []) (new ∷ rows_from 1 batches)) row (IsPermutation-to_front (rows_from 1 batches) new) in
    let whole = IsPermutation-trans (rows_from 1 batches ++ row_of (1 + length batches) lines ∷ []) (new ∷ rows_from 1 batches) (put_row new table) last all in
    (ap (λ (d : Database). d.schema) now, subst₂ IsPermutation (sym (more_rows 1 batches lines)) (sym edit) whole)
  where
    not_true : (b : Bool) → (not b && true) ≡ true → b ≡ false
    not_true false h = refl
    not_true true h = absurd (let e = h in cc)

-- the same of a statement that ran, also in a transaction
pub adds_inside : (old new : State) (batches : List (List ℕ)) (lines : List ℕ) (count : ℕ) → old.now.schema ≡ store_schema → HasBatches old.now.trees batches
    → Executes add_text (Blob lines ∷ []) old new (Ok count) → (new.now.schema ≡ store_schema) × HasBatches new.now.trees (batches ++ lines ∷ [])
adds_inside old new batches lines count has rows h =
    let w = runs_as add_text (Blob lines ∷ []) old new store_schema has (Insert 0 (Values terms 3)) insert_is insert_plain count h in
    does_add old.step_limit (mode_of old) old.now lines batches has rows [] w.tally new.now w.changed

-- after INSERT the store has one batch more
pub adds : (old new : State) (batches : List (List ℕ)) (lines : List ℕ) (count : ℕ) → Holds old batches → Executes add_text (Blob lines ∷ []) old new (Ok count)
    → Holds new (batches ++ lines ∷ [])
adds old new batches lines count holds h =
    let w = runs_as add_text (Blob lines ∷ []) old new store_schema holds.schema (Insert 0 (Values terms 3)) insert_is insert_plain count h in
    let made = does_add old.step_limit (mode_of old) old.now lines batches holds.schema holds.rows [] w.tally new.now w.changed in
    record {
      schema = made.0;
      rows = made.1;
      committed = w.shown.committed_is ∙ ap (λ b. cond b old.committed new.now) holds.autocommit;
      autocommit = w.shown.mode ∙ holds.autocommit;
    }

-- and so has what a crash may leave of the commit
pub adds_crash : (old : State) (batches : List (List ℕ)) (lines : List ℕ) (db : Trees) → Holds old batches → CommitsBy add_text (Blob lines ∷ []) old db
    → HasBatches db (batches ++ lines ∷ [])
unfolding CommitsBy
adds_crash old batches lines db holds h =
    let known = sym h.1.is ∙ ap (λ s. understood s add_text) holds.schema in
    let bare = subst IsPlain (sym known) insert_plain in
    let command : h.0.command ≡ Insert 0 (Values terms 3) = ap command_of known ∙ insert_is in
    let may = rw (bare.0, bare.1, append-nil (Blob lines ∷ []), command) at h.2 in
    elim may [
      | inl ends ↦ absurd (elim ends.0 [ inl commit ↦ let e = commit in cc | inr release ↦ let e = release.2 in cc ])
      | inr writes ↦ subst (λ (t : Trees). HasBatches t (batches ++ lines ∷ [])) (sym writes.5) (does_add old.step_limit (mode_of old) old.now lines batches holds.schema holds.rows [] writes.1 writes.2 writes.3).1
    ]

-- the table of a new store
pub creates_inside : (old new : State) (count : ℕ) → old.now.schema ≡ no_schema → Executes table_text [] old new (Ok count)
    → (new.now.schema ≡ store_schema) × HasBatches new.now.trees []
creates_inside old new count has h =
    let w = subst (λ t. Writes old new None CreateTable t [] count) create_is.1 (runs_as table_text [] old new no_schema has CreateTable create_is.0 create_plain count h) in
    let all = went w.changed in
    let first = went all.1 in
    let made = first.1 in
    let both : Ok made.table ≡ Ok batch_table = sym made.defined ∙ create_is.2 in
    let same : made.table ≡ batch_table = cc in
    let schema : first.0.schema ≡ store_schema = made.is ∙ ap (λ s. created s made.table) has ∙ ap (created no_schema) same in
    let plain : lacks_sequence first.0.schema ≡ false = ap lacks_sequence schema in
    let now : new.now ≡ first.0 = ap (λ (p : Tally × Database). p.1) (same_value all.2) ∙ same_value (rw plain at first.2) in
    let none : new.now.trees 0 ≡ [] = ap (λ (d : Database). d.trees 0) now ∙ subst (λ s. first.0.trees (next_tree s) ≡ []) has made.empty in
    (ap (λ (d : Database). d.schema) now ∙ schema, subst (IsPermutation []) (sym none) (IsPermutation-refl []))

-- a row as the query shows it, beside nothing that it is sorted by
abbrev show : Row → Output
show r = ([], column r 0 ∷ column r 2 ∷ [])

staged : (rows : List Row) → map (output query) (flat_map (λ r. ([] ∷ r ∷ []) ∷ []) rows) ≡ map show rows
staged [] = refl
staged (r ∷ rows) = ap (λ x. show r ∷ x) (staged rows)

-- the query shows each row of the table, in some order
shown_as : (old new : State) (rows : List Row) → old.now.schema ≡ store_schema → Shown all_text [] old new rows
    → (ordered : List Output) × IsPermutation (map show (old.now.trees 0)) ordered × (rows ≡ map (λ (o : Output). o.1) ordered)
shown_as old new rows has h =
    let got = (reads_as all_text [] old new store_schema has _ select_is.0 select_plain select_is.1 rows h).answer in
    let a : IsAnswer query (overlay old.now.trees []) [] rows = got Null in
    let kept : a.kept ≡ map show (old.now.trees 0) = a.distinct ∙ ap (map (output query)) a.grouped ∙ staged (old.now.trees 0) in
    (a.ordered, subst (λ k. IsPermutation k a.ordered) kept a.same, a.shown)

-- and changes nothing
shown_unchanged : (old new : State) (rows : List Row) → old.now.schema ≡ store_schema → Shown all_text [] old new rows → IsUnchanged old new
unfolding Shown
shown_unchanged old new rows has h =
    let plain : IsPlain (understood old.now.schema all_text) = subst (λ s. IsPlain (understood s all_text)) (sym has) select_plain in
    let none = (subst IsPlain h.1.is plain).0 in
    (subst (ShowsRows old new all_text h.0 (timed [] h.0.formats h.1.now) rows) none h.2).3

shown_at : (n : ℕ) (rows : List Row) (found : List (List ℕ)) → AreShown n rows found
    → (length found ≡ length rows) × ((j : ℕ) → j < length rows → (column (get_or rows j []) 0 ≡ Int (pos (n + j))) × (column (get_or rows j []) 1 ≡ Blob (get_or found j [])))
shown_at n [] [] h = (refl, λ j low. absurd (omega arith))
shown_at n [] (lines ∷ more) h = absurd h
shown_at n (row ∷ rows) [] h = absurd h
shown_at n (row ∷ rows) (lines ∷ more) h = let rest = shown_at (suc n) rows more h.2 in (ap suc rest.0, first rest.1)
  where
    first : ((j : ℕ) → j < length rows → (column (get_or rows j []) 0 ≡ Int (pos (suc n + j))) × (column (get_or rows j []) 1 ≡ Blob (get_or more j [])))
        → (j : ℕ) → j < length (row ∷ rows) → (column (get_or (row ∷ rows) j []) 0 ≡ Int (pos (n + j))) × (column (get_or (row ∷ rows) j []) 1 ≡ Blob (get_or (lines ∷ more) j []))
    first rest zero low = (h.0 ∙ ap (λ k. Int (pos k)) (sym (add-zero n)), h.1)
    first rest (suc j) low = let there = rest j (omega arith) in (there.0 ∙ ap (λ k. Int (pos k)) (omega arith), there.1)

-- what one output of the table of these batches is
abbrev IsOutput : List (List ℕ) → Output → Type 0
IsOutput batches o = (i : ℕ) × (i < length batches) × (o.1 ≡ Int (pos (1 + i)) ∷ Blob (get_or batches i []) ∷ [])

outputs : (batches : List (List ℕ)) → All (IsOutput batches) (map show (rows_from 1 batches))
outputs batches k d low =
    let within : k < length batches = omega (arith, length-map (rows_from 1 batches) show, length_rows 1 batches) in
    let inside : k < length (rows_from 1 batches) = omega (arith, length_rows 1 batches) in
    (k, within, ap (λ (o : Output). o.1) (get_or-map show (rows_from 1 batches) k [] d inside ∙ ap show (row_at 1 k batches [] within)))

-- rows that are numbered in turn and are those of the table in some order are those of the table
found_same : (batches found : List (List ℕ)) (table : List Row) (ordered : List Output) → IsPermutation (rows_from 1 batches) table → IsPermutation (map show table) ordered
    → AreShown 1 (map (λ (o : Output). o.1) ordered) found → found ≡ batches
found_same batches found table ordered stored shown are =
    let same = IsPermutation-trans (map show (rows_from 1 batches)) (map show table) ordered (IsPermutation-map show (rows_from 1 batches) table stored) shown in
    let each = All-permutation (IsOutput batches) (map show (rows_from 1 batches)) ordered same (outputs batches) in
    let there = shown_at 1 (map (λ (o : Output). o.1) ordered) found are in
    let long : length found ≡ length batches = omega (arith, there.0, length-map ordered (λ (o : Output). o.1), length_permutation _ _ same, length-map (rows_from 1 batches) show, length_rows 1 batches) in
    ext_get_or [] found batches long (λ k low.
    let within : k < length ordered = omega (arith, there.0, length-map ordered (λ (o : Output). o.1)) in
    let at = there.1 k (omega (arith, there.0)) in
    let one : IsOutput batches (get_or ordered k ([], [])) = each k ([], []) within in
    let is : get_or (map (λ (o : Output). o.1) ordered) k [] ≡ Int (pos (1 + one.0)) ∷ Blob (get_or batches one.0 []) ∷ [] = get_or-map (λ (o : Output). o.1) ordered k ([], []) [] within ∙ one.2 in
    let number : Int (pos (1 + one.0)) ≡ Int (pos (1 + k)) = ap (λ r. column r 0) (sym is) ∙ at.0 in
    let place : one.0 ≡ k = (let e : 1 + one.0 ≡ 1 + k = cc in omega arith) in
    let lines : Blob (get_or batches one.0 []) ≡ Blob (get_or found k []) = ap (λ r. column r 1) (sym is) ∙ at.1 in
    let e : get_or batches one.0 [] ≡ get_or found k [] = cc in
    sym e ∙ ap (λ i. get_or batches i []) place)

pub unchanged_holds : (old new : State) (batches : List (List ℕ)) → IsUnchanged old new → Holds old batches → Holds new batches
unchanged_holds old new batches unchanged holds = let same = unchanged.0 in record {
  schema = ap (λ (d : Database). d.schema) same.now_is ∙ holds.schema;
  rows = subst (λ (d : Database). HasBatches d.trees batches) (sym same.now_is) holds.rows;
  committed = same.committed_is ∙ holds.committed ∙ sym same.now_is;
  autocommit = same.mode ∙ holds.autocommit;
}

-- the lines that a store shows are those that it has
pub lists : (old new : State) (batches found : List (List ℕ)) (rows : List Row) → Holds old batches → Shown all_text [] old new rows → AreShown 1 rows found
    → (found ≡ batches) × Holds new batches
lists old new batches found rows holds h are =
    let shown = shown_as old new rows holds.schema h in (
      found_same batches found (old.now.trees 0) shown.0 holds.rows shown.1 (subst (λ r. AreShown 1 r found) shown.2 are),
      unchanged_holds old new batches (shown_unchanged old new rows holds.schema h) holds,
    )

not_run_quiet : (old new : State) (sql : List ℕ) (params : Row) (e : Error) → IsNotRun old new sql params e → IsQuiet old new
unfolding IsNotRun
not_run_quiet old new sql params e (inl none) = inl none.1
not_run_quiet old new sql params e (inr fails) = inr fails.3

command_quiet : (old new : State) (sql : List ℕ) (c : Compiled) (params : Row) (e : Error) → RunsCommand old new sql c params (Err e) → IsQuiet old new
command_quiet old new sql c params e (inl refused) = inl refused.1
command_quiet old new sql c params e (inr fails) = inr fails.3

-- a statement that is not run leaves the database as it was, or takes back what was not committed
pub executes_quiet : (old new : State) (sql : List ℕ) (params : Row) (e : Error) → Executes sql params old new (Err e) → IsQuiet old new
unfolding ExecutesIn
executes_quiet old new sql params e (inl none) = not_run_quiet old new sql params e none
executes_quiet old new sql params e (inr ran) = elim (cases_Bool (shows_rows false ran.0)) [
  | inl shows ↦ inl (rw shows at ran.2).1
  | inr runs ↦ command_quiet old new sql ran.0 (timed params ran.0.formats ran.1.now) e (rw runs at ran.2)
]

-- and so does a query
pub queries_quiet : (old new : State) (sql : List ℕ) (params : Row) (e : Error) → FailsToQuery sql params old new e → IsQuiet old new
unfolding FailsToQuery
queries_quiet old new sql params e (inl none) = not_run_quiet old new sql params e none
queries_quiet old new sql params e (inr fails) = go fails.0.returning fails.2
  where
    go : (what : Option Returning) → FailsToShow old new sql fails.0 (timed params fails.0.formats fails.1.now) e what → IsQuiet old new
    go None h = inl h.3
    go (Some what) h = command_quiet old new sql fails.0 _ e h

-- so what was held is held, unless the connection was shut
pub quiet_holds : (old new : State) (batches : List (List ℕ)) → IsQuiet old new → IsTrue new.is_open → Holds old batches → Holds new batches
quiet_holds old new batches (inl same) is_open holds = unchanged_holds old new batches same holds
quiet_holds old new batches (inr back) is_open holds =
    let undone = back.undone is_open in
    let now : new.now ≡ old.now = undone.0 ∙ holds.committed in
    record {
      schema = ap (λ (d : Database). d.schema) now ∙ holds.schema;
      rows = subst (λ (d : Database). HasBatches d.trees batches) (sym now) holds.rows;
      committed = undone.1 ∙ sym undone.0;
      autocommit = back.autocommit;
    }

-- the query commits nothing
pub shows_no_commit : (old : State) (db : Trees) → old.now.schema ≡ store_schema → ¬ CommitsShowing all_text [] old db
shows_no_commit old db has = never_commits all_text [] old db (subst (λ s. IsPlain (understood s all_text)) (sym has) select_plain)

-- a database whose statements were all taken back holds what it held
pub same_holds : (old new : State) (batches : List (List ℕ)) → new.now ≡ old.now → new.committed ≡ old.committed → new.in_transaction ≡ false → Holds old batches → Holds new batches
same_holds old new batches now committed mode holds = record {
  schema = ap (λ (d : Database). d.schema) now ∙ holds.schema;
  rows = subst (λ (d : Database). HasBatches d.trees batches) (sym now) holds.rows;
  committed = committed ∙ holds.committed ∙ sym now;
  autocommit = mode;
}

concat_more : (batches : List (List ℕ)) (lines : List ℕ) → concat (batches ++ lines ∷ []) ≡ concat batches ++ lines
concat_more [] lines = append-nil lines
concat_more (first ∷ more) lines = ap (λ x. first ++ x) (concat_more more lines) ∙ sym (append_assoc first (concat more) lines)

module _ {S : Type 0} (g : Ghosts S) (old new : Store S) (early : HasCleanDisk (within g new) → HasCleanDisk (within g old)) where
  -- a store that has one batch more keeps the text with these lines behind it
  pub keeps_more : {E : Type 0} (r : Result (Unit {0}) E) (lines : List ℕ)
      → (HasCleanDisk (within g new) → OnOk r ((batches : List (List ℕ)) → Holds (within g old) batches → Holds (within g new) (batches ++ lines ∷ [])))
      → OnOk r ((text : List ℕ) → Keeps g old text → Keeps g new (text ++ lines))
  keeps_more (Err e) lines more = tt
  keeps_more (Ok done) lines more = λ text keeps clean.
      let was = keeps (early clean) in
      (was.0 ++ lines ∷ [], more clean was.0 was.1, concat_more was.0 lines ∙ ap (λ x. x ++ lines) was.2)

  -- one that is as it was keeps its text
  pub keeps_quiet : {A E : Type 0} (r : Result A E) → (HasCleanDisk (within g new) → OnErr r (IsQuiet (within g old) (within g new)))
      → OnErr r (KeepsIfOpen g old new)
  keeps_quiet (Ok done) quiet = tt
  keeps_quiet (Err e) quiet = λ is_open text keeps clean.
      let was = keeps (early clean) in
      (was.0, quiet_holds (within g old) (within g new) was.0 (quiet clean) is_open was.1, was.2)

  -- one whose batches are the head and these lines keeps them
  pub keeps_others : {E : Type 0} (r : Result (Unit {0}) E) (lines : List ℕ)
      → (HasCleanDisk (within g new) → OnOk r ((batches : List (List ℕ)) → Holds (within g old) batches → Holds (within g new) (head_line ∷ lines ∷ [])))
      → OnOk r ((text : List ℕ) → Keeps g old text → Keeps g new (head_line ++ lines))
  keeps_others (Err e) lines others = tt
  keeps_others (Ok done) lines others = λ text keeps clean.
      let was = keeps (early clean) in
      (head_line ∷ lines ∷ [], others clean was.0 was.1, ap (λ x. head_line ++ x) (append-nil lines))

  -- one whose database is the same keeps its text
  pub keeps_both : {A E : Type 0} (r : Result A E)
      → (HasCleanDisk (within g new) → IsTrue (within g new).is_open → OnErr r (((within g new).now ≡ (within g old).now) × ((within g new).committed ≡ (within g old).committed)))
      → ((within g old).in_transaction ≡ false → (within g new).in_transaction ≡ false)
      → OnErr r (KeepsIfOpen g old new)
  keeps_both (Ok done) neither mode = tt
  keeps_both (Err e) neither mode = λ is_open text keeps clean.
      let was = keeps (early clean) in
      let same = neither clean is_open in
      (was.0, same_holds (within g old) (within g new) was.0 same.0 same.1 (mode was.1.autocommit) was.1, was.2)

  -- the query leaves it as it was
  pub keeps_shown : (rows : List Row) → (HasCleanDisk (within g new) → Shown all_text [] (within g old) (within g new) rows) → (text : List ℕ) → Keeps g old text → Keeps g new text
  keeps_shown rows shown text keeps clean =
      let was = keeps (early clean) in
      (was.0, unchanged_holds (within g old) (within g new) was.0 (shown_unchanged (within g old) (within g new) rows was.1.schema (shown clean)) was.1, was.2)

  -- and what it shows is the text
  pub text_found : HasCleanDisk (within g new) → (rows : List Row) → Shown all_text [] (within g old) (within g new) rows → (found : List ℕ) → HoldText rows found
      → (text : List ℕ) → Keeps g old text → found ≡ text
  text_found clean rows shown found held text keeps =
      let was = keeps (early clean) in
      held.2 ∙ ap concat (lists (within g old) (within g new) was.0 held.0 rows was.1 shown held.1).0 ∙ was.2

-- one row more
shown_more : (n : ℕ) (rows : List Row) (batches : List (List ℕ)) (row : Row) (lines : List ℕ) → AreShown n rows batches → IsShown (n + length rows) row lines
    → AreShown n (rows ++ row ∷ []) (batches ++ lines ∷ [])
shown_more n [] [] row lines are one = (one.0 ∙ ap (λ k. Int (pos k)) (add-zero n), one.1, tt)
shown_more n [] (first ∷ more) row lines are one = absurd are
shown_more n (r ∷ rows) [] row lines are one = absurd are
shown_more n (r ∷ rows) (first ∷ more) row lines are one = (are.0, are.1, shown_more (suc n) rows more row lines are.2 (one.0 ∙ ap (λ k. Int (pos k)) (omega arith), one.1))

pub text_more : (rows : List Row) (at : ℕ) (row : Row) (old new : List ℕ) → at < length rows → row ≡ get_or rows at row → HoldText (take at rows) old → AddsRow (at + 1) row old new
    → HoldText (take (at + 1) rows) new
text_more rows at row old new low is held adds =
    let long : 1 + length (take at rows) ≡ at + 1 = omega (arith, length-take at rows) in
    let are = shown_more 1 (take at rows) held.0 row adds.0 held.1 (subst (λ k. IsShown k row adds.0) (sym long) adds.1) in
    let all : take (at + 1) rows ≡ take at rows ++ row ∷ [] = take_more rows at row low ∙ ap (λ r. take at rows ++ r ∷ []) (sym is) in
    (held.0 ++ adds.0 ∷ [], subst (λ r. AreShown 1 r (held.0 ++ adds.0 ∷ [])) (sym all) are, adds.2 ∙ ap (λ t. t ++ adds.0) held.2 ∙ sym (concat_more held.0 adds.0))

-- what holds anyway holds on an error
pub on_any_err : {T E Q : Type 0} (r : Result T E) → Q → OnErr r Q
on_any_err (Ok x) q = tt
on_any_err (Err e) q = q

pub on_any_ok : {T E Q : Type 0} (r : Result T E) → Q → OnOk r Q
on_any_ok (Ok x) q = q
on_any_ok (Err e) q = tt

-- ---- what a database with the schema of a store holds, whoever made it

-- a row as the query shows it tells all of the row
abbrev unshow : Output → Row
unshow o = column o.1 0 ∷ Null ∷ column o.1 1 ∷ []

-- the rules of the table leave a row no other form
whole_row : (row : Row) → passes Datatype store_schema no_trees batch_table row ≡ true → passes NotNull store_schema no_trees batch_table row ≡ true → unshow (show row) ≡ row
whole_row [] typed present = absurd (let e = present in cc)
whole_row (a ∷ []) typed present = absurd (let e = present in cc)
whole_row (a ∷ v ∷ []) typed present = absurd (let e = present in cc)
whole_row (a ∷ Null ∷ b ∷ []) typed present = refl
whole_row (a ∷ Int n ∷ b ∷ []) typed present = absurd (let e = typed in cc)
whole_row (a ∷ Real x ∷ b ∷ []) typed present = absurd (let e = typed in cc)
whole_row (a ∷ Text t ∷ b ∷ []) typed present = absurd (let e = typed in cc)
whole_row (a ∷ Blob t ∷ b ∷ []) typed present = absurd (let e = typed in cc)
whole_row (a ∷ v ∷ b ∷ c ∷ more) typed present = absurd (dead (is_null v) (is_of Bytes b) true typed)
  where
    dead : (p q r : Bool) → ((p && (q && false)) && r) ≡ true → ⊥
    dead false q r h = let e = h in cc
    dead true false r h = let e = h in cc
    dead true true r h = let e = h in cc

unshown : (n : ℕ) (ordered : List Output) (found : List (List ℕ)) → AreShown n (map (λ (o : Output). o.1) ordered) found → map unshow ordered ≡ rows_from n found
unshown n [] [] are = refl
unshown n [] (lines ∷ more) are = absurd are
unshown n (o ∷ ordered) [] are = absurd are
unshown n (o ∷ ordered) (lines ∷ more) are =
    let rest = unshown (suc n) ordered more are.2 in
    let number = are.0 in
    let text = are.1 in
    cc

whole_rows : (db : Trees) (rows : List Row) → AllByRecursion (λ row. passes Datatype store_schema db batch_table row ≡ true) rows
    → AllByRecursion (λ row. passes NotNull store_schema db batch_table row ≡ true) rows → map unshow (map show rows) ≡ rows
whole_rows db [] typed present = refl
whole_rows db (row ∷ rows) typed present = ap (λ r. r ∷ map unshow (map show rows)) (whole_row row typed.0 present.0) ∙ ap (λ x. row ∷ x) (whole_rows db rows typed.1 present.1)

-- so rows that the query shows, numbered in turn, are all that the store has
pub establishes : (old new : State) (found : List (List ℕ)) (rows : List Row) → old.now.schema ≡ store_schema → IsIdle old → IsLive old → Shown all_text [] old new rows → AreShown 1 rows found
    → Holds new found
establishes old new found rows has idle live h are =
    let same = shown_unchanged old new rows has h in
    let shown = shown_as old new rows has h in
    let sound = subst (λ s. IsSound s old.now.trees) has (live same.0.was_open).0 in
    let whole = whole_rows old.now.trees (old.now.trees 0) (sound.obeys.rules Datatype).0 (sound.obeys.rules NotNull).0 in
    let named = unshown 1 shown.0 found (subst (λ r. AreShown 1 r found) shown.2 are) in
    let there = subst₂ IsPermutation whole named (IsPermutation-map unshow (map show (old.now.trees 0)) shown.0 shown.1) in
    unchanged_holds old new found same (record {
      schema = has;
      rows = IsPermutation-sym (old.now.trees 0) (rows_from 1 found) there;
      committed = idle.0;
      autocommit = idle.1;
    })

-- and a store keeps what it shows
pub keeps_found : {S : Type 0} (g : Ghosts S) (old new : Store S) → (HasCleanDisk (within g new) → HasCleanDisk (within g old)) → IsLive (within g old) → (rows : List Row)
    → (HasCleanDisk (within g new) → Shown all_text [] (within g old) (within g new) rows) → (found : List ℕ) → HoldText rows found → IsStore g old → Keeps g new found
keeps_found g old new early live rows shown found held store clean =
    let was = store (early clean) in
    (held.0, establishes (within g old) (within g new) held.0 rows was.0 was.1 live (shown clean) held.1, sym held.2)

-- ---- what is true of a store that has to be there

pub there_made : {T E : Type 0} (P : T → Type 0) (r : Result T E) (schema : Schema) → OnOk r (schema ≡ store_schema) → schema ≡ no_schema → IfOk r P
there_made P (Err e) schema known none = tt
there_made P (Ok x) schema known none = absurd (let e = ap (λ (s : Schema). s.tables) (sym none ∙ known) in cc)

pub there_known : {T E : Type 0} (A B : Type 0) (r : Result T E) → OnOk r B → OnOk r (A ⊎ B)
there_known A B (Err e) known = tt
there_known A B (Ok x) known = inr known

pub there_clean : {S E A : Type 0} (g : Ghosts S) (conn : Held S) (r : Result (Store S) E) → OnOk r A → (A → IsOkAnd r (λ store. store.conn ≡ conn))
    → IfOk r (λ store. HasCleanDisk (within g store) → HasCleanDisk (state g conn))
there_clean g conn (Err e) known there = tt
there_clean g conn (Ok store) known there = subst (λ c. HasCleanDisk (state g c) → HasCleanDisk (state g conn)) (sym (there known)) (λ clean. clean)
