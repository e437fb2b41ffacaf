-- What DELETE does to a store.
use Rattle.std.proofs.Common.{◌≡◌, ℕ, ℤ, ◌+◌, pos, negsuc, List, [], ◌∷◌, get_or, map, Bool, true, false, not, cond, ◌||◌, Option, None, Ok, refl, sym, ap, subst, ◌∙◌, arith}
use Rattle.std.specs.List.{All, AllByRecursion, flat_map, list_any}
use Rattle.std.specs.List.Sorted.{IsPermutation}
use Rattle.std.specs.Ordering.{is_eq}
use Rattle.std.proofs.lemmas.Cmp.{tied_itself}
use Rattle.std.proofs.lemmas.List.{get_or-map, length-map}
use Rattle.std.proofs.lemmas.List.Elements.{recursion_from_All}
use Rattle.std.proofs.lemmas.List.Sorted.{All-permutation, list_any-IsPermutation, IsPermutation-refl}
use Rattle.sqlite_value.proofs.OrderLemmas.{value_cmp_total}
use Rattle.sqlite_rules.specs.Calls.{ids_of}
use Rattle.sqlite.specs.declared.types.Value.TheVariants.{Null, Int, Blob}
use Rattle.sqlite.specs.Order.{Row, value_cmp}
use Rattle.sqlite.specs.Term.{lit, col}
use Rattle.sqlite.specs.Query.{Query, inner, end, IsAnswer, output, Output}
use Rattle.sqlite.specs.Program.{overlay}
use Rattle.sqlite.specs.Command.TheVariants.{Delete}
use Rattle.sqlite.specs.Edit.{edit_of, edited, id_in, without_all}
use Rattle.sqlite.specs.Rowids.TheVariants.{Given}
use Rattle.sqlite.specs.Does.{Tally, Does}
use Rattle.sqlite.specs.Rows.{Written}
use Rattle.sqlite.specs.Tree.{Trees, rowid, has_rowid, without_rowid}
use Rattle.sqlite.specs.declared.run.Mode.{Mode}
use Rattle.sqlite.specs.Effect.{Database}
use Rattle.sqlite.specs.Listing.{understood}
use Rattle.sqlite.specs.State.{State, mode_of, Executes}
use Rattle.sqlite.proofs.Callers.{IsPlain, command_of, runs_as, one_step}
use Rattle.sqlite_schema.specs.declared.program.Program.{Program}
use Rattle.sqlite_tied.specs.Compute.{everything}
use Rattle.scene_store.specs.Head.{head_line}
use Rattle.scene_store.specs.Store.{add_text, table_text, no_schema, clear_text, batch_table, store_schema, rows_from, HasBatches}
use Rattle.scene_store.proofs.StoreLemmas.{row_at, length_rows, any_at, went, same_value, adds_inside, creates_inside}

abbrev query : Query
query = record {
  from = inner 0 end;
  filter = [];
  group = None;
  project = col 1 0 ∷ [];
  distinct = false;
  collations = [];
  order = [];
  limit = lit (Int (negsuc 0));
  offset = lit (Int (pos 0));
}

abbrev program : Program
program = record { lets = []; body = query }

clear_is : command_of (understood store_schema clear_text) ≡ Delete 0 program
unfolding understood everything
clear_is = refl

clear_plain : IsPlain (understood store_schema clear_text)
unfolding understood everything
clear_plain = (refl, refl)

-- a row as the statement reads it: its rowid
abbrev one : Row → Output
one r = ([], rowid r ∷ [])

staged : (rows : List Row) → map (output query) (flat_map (λ r. ([] ∷ r ∷ []) ∷ []) rows) ≡ map one rows
staged [] = refl
staged (r ∷ rows) = ap (λ x. one r ∷ x) (staged rows)

abbrev Covers : List ℤ → List Row → Type 0
Covers ids = AllByRecursion (λ r. list_any (λ id. has_rowid id r) ids ≡ true)

covers_rest : (id : ℤ) (ids : List ℤ) (rows : List Row) → Covers (id ∷ ids) rows → Covers ids (without_rowid id rows)
covers_rest id ids [] h = tt
covers_rest id ids (r ∷ rows) h = go (has_rowid id r) h.0 (covers_rest id ids rows h.1)
  where
    go : (b : Bool) → (b || list_any (λ i. has_rowid i r) ids) ≡ true → Covers ids (without_rowid id rows) → Covers ids (cond (not b) (r ∷ without_rowid id rows) (without_rowid id rows))
    go true any rest = rest
    go false any rest = (any, rest)

-- with all their rowids taken out no rows are left
gone : (ids : List ℤ) (rows : List Row) → Covers ids rows → without_all rows ids ≡ []
gone [] [] h = refl
gone [] (r ∷ rows) h = absurd (let e = h.0 in cc)
gone (id ∷ ids) rows h = gone ids (without_rowid id rows) (covers_rest id ids rows h)

abbrev HasRowid : Row → Type 0
HasRowid r = (n : ℤ) × (rowid r ≡ Int n)

have_rowids : (batches : List (List ℕ)) → All HasRowid (rows_from 1 batches)
have_rowids batches k d low = (pos (1 + k), ap rowid (row_at 1 k batches d (omega (arith, length_rows 1 batches))))

any_ids : (r : Row) (ordered : List Output) → list_any (λ id. has_rowid id r) (ids_of (map (λ (o : Output). o.1) ordered)) ≡ list_any (λ (o : Output). has_rowid (id_in (rowid o.1)) r) ordered
any_ids r [] = refl
any_ids r (o ∷ ordered) = ap (λ b. has_rowid (id_in (rowid o.1)) r || b) (any_ids r ordered)

covers : (table : List Row) (ordered : List Output) → All HasRowid table → IsPermutation (map one table) ordered → All (λ r. list_any (λ id. has_rowid id r) (ids_of (map (λ (o : Output). o.1) ordered)) ≡ true) table
covers table ordered ints same k d low =
    let r = get_or table k d in
    let n = ints k d low in
    let own : has_rowid (id_in (rowid r)) r ≡ true = ap (λ v. is_eq (value_cmp v (Int (id_in v)))) n.1 ∙ ap is_eq (tied_itself value_cmp_total (Int n.0)) in
    let p : Output → Bool = λ o. has_rowid (id_in (rowid o.1)) r in
    let here : p (get_or (map one table) k ([], [])) ≡ true = ap p (get_or-map one table k d ([], []) low) ∙ own in
    let any = any_at p (map one table) k ([], []) (omega (arith, length-map table one)) here in
    any_ids r ordered ∙ sym (list_any-IsPermutation p (map one table) ordered same) ∙ any

does_clear : (limit : Option ℕ) (mode : Mode) (db : Database) (batches : List (List ℕ)) → db.schema ≡ store_schema → HasBatches db.trees batches
    → (text : List ℕ) (tally : Tally) (after : Database) → Does limit mode [] db text None (Delete 0 program) (Ok (tally, after))
    → (after.schema ≡ store_schema) × (after.trees 0 ≡ [])
does_clear limit mode db batches has rows text tally after does =
    let done = went (subst (λ s. Does limit mode [] (record db { schema = s }) text None (Delete 0 program) (Ok (tally, after))) has does) in
    let now = ap (λ (p : Tally × Database). p.1) (same_value (went (went done.2).2).2) in
    let given = went done.1 in
    let written = went given.2 in
    let trees : done.0.trees ≡ written.0 = ap (λ (it : Written). it.trees) (same_value written.2) in
    let a : IsAnswer query (overlay db.trees []) [] given.0 = given.1.answer Null in
    let kept : a.kept ≡ map one (db.trees 0) = a.distinct ∙ ap (map (output query)) a.grouped ∙ staged (db.trees 0) in
    let same : IsPermutation (map one (db.trees 0)) a.ordered = subst (λ k. IsPermutation k a.ordered) kept a.same in
    let found : given.0 ≡ map (λ (o : Output). o.1) a.ordered = a.shown in
    let each = covers (db.trees 0) a.ordered (All-permutation HasRowid (rows_from 1 batches) (db.trees 0) rows (have_rowids batches)) same in
    let none = gone (ids_of (map (λ (o : Output). o.1) a.ordered)) (db.trees 0) (recursion_from_All _ (db.trees 0) each) in
    let made = one_step store_schema _ db.trees written.0 (edit_of db.trees batch_table (ids_of given.0) Given 0 []) refl written.1 in
    let left : edited db.trees (edit_of db.trees batch_table (ids_of given.0) Given 0 []) ≡ [] = ap (λ r. without_all (db.trees 0) (ids_of r)) found ∙ none in
    (ap (λ (d : Database). d.schema) now, ap (λ (d : Database). d.trees 0) now ∙ ap (λ (t : Trees). t 0) trees ∙ made.rows ∙ left)

-- after DELETE the table has no batch
pub clears : (old new : State) (batches : List (List ℕ)) (count : ℕ) → old.now.schema ≡ store_schema → HasBatches old.now.trees batches → Executes clear_text [] old new (Ok count)
    → (new.now.schema ≡ store_schema) × HasBatches new.now.trees []
clears old new batches count has rows h =
    let w = runs_as clear_text [] old new store_schema has (Delete 0 program) clear_is clear_plain count h in
    let made = does_clear old.step_limit (mode_of old) old.now batches has rows [] w.tally new.now w.changed in
    (made.0, subst (IsPermutation []) (sym made.1) (IsPermutation-refl []))
