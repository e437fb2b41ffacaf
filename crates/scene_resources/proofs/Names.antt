-- The names of the entries of the map of the code: in order, and which are kept.
use Rattle.std.proofs.Common.{◌≡◌, ℕ, cond, is_some, Bool, true, false, ◌||◌, List, [], ◌∷◌, ◌++◌, refl, ap, sym, subst, ◌∙◌, map, filter, Option, Some, None, String, string_bytes}
use Rattle.std.specs.Prelude.{◌≢◌, Contains, IsSome}
use Rattle.std.specs.declared.alloc.Global.{Global}
use Rattle.std.specs.declared.cmp.Ordering.TheVariants.{Less}
use Rattle.std.specs.Cmp.{eq_by_cmp_equiv}
use Rattle.std.specs.FinMap.Entries.{put, by_order}
use Rattle.std.specs.List.{AllByRecursion, list_any}
use Rattle.std.specs.List.Sorted.{IsStrictlySortedBy}
use Rattle.std.specs.Map.{keys_of, lookup}
use Rattle.std.specs.Option.{option_flatten}
use Rattle.std.specs.BTreeMap.{BTreeMap, UpdatesBy}
use Rattle.std.specs.Ordering.{is_eq}
use Rattle.std.specs.String.{string_cmp}
use Rattle.std.proofs.lemmas.Map.Keys.{sorted_head, sorted_tail}
use Rattle.std.proofs.lemmas.Map.Text.{btree_map_updates_text, is_eq-slice_cmp}
use Rattle.std.proofs.lemmas.Map.Views.{list_any-from_Contains, Contains-from_any}
use Rattle.scene_kinds.specs.declared.cell.Cell.{Cell}
use Rattle.scene_kinds.proofs.Maps.{equal_keys}
use Rattle.scene_resources.specs.Resources.{NamedCells, StoredResources, IsWider, Forgets, Holds, name_cmp, name_cmp_total, name_cmp_exact, cell_of, restore_of, names_of}
use Rattle.scene_resources.specs.Entries.{named_cells, kept_names, stored}
use Rattle.scene_resources.proofs.Cells.{cell_of-named_cells, found_cell}
use Rattle.scene_resources.proofs.ResourceLaws.{is_name, restore_of-cell_of}

-- ---- a map's entries

-- the entries that have a cell
abbrev pub filled : List (String Global × Option Cell) → List (List ℕ × Cell)
filled [] = []
filled ((k, None) ∷ es) = filled es
filled ((k, Some c) ∷ es) = (string_bytes k, c) ∷ filled es

-- a cell whose name is below all others goes first
put_first : (k : String Global) (c : Cell) (es : List (String Global × Option Cell)) → AllByRecursion (λ l. string_cmp k l ≡ Less) (keys_of es)
    → put name_cmp (string_bytes k) c (filled es) ≡ (string_bytes k, c) ∷ filled es
put_first k c [] h = refl
put_first k c ((l, None) ∷ es) h = put_first k c es h.1
put_first k c ((l, Some d) ∷ es) h =
    ap (λ o. by_order o ((string_bytes k, c) ∷ (string_bytes l, d) ∷ filled es) ((string_bytes l, c) ∷ filled es) ((string_bytes l, d) ∷ put name_cmp (string_bytes k) c (filled es))) h.0

-- a name below all others isn't among them
absent : (k : String Global) (es : List (String Global × Option Cell)) → AllByRecursion (λ l. string_cmp k l ≡ Less) (keys_of es)
    → lookup (λ l. is_eq (name_cmp (string_bytes k) (string_bytes l))) es ≡ None
absent k [] h = refl
absent k (e ∷ es) h = ap (λ o. cond (is_eq o) (Some e.1) (lookup (λ l. is_eq (name_cmp (string_bytes k) (string_bytes l))) es)) h.0 ∙ absent k es h.1

-- so it leaves the cells as they are where it comes without one
unfilled : (k : String Global) (es : List (String Global × Option Cell)) → AllByRecursion (λ l. string_cmp k l ≡ Less) (keys_of es) → restore_of (named_cells es) (string_bytes k) None ≡ named_cells es
unfilled k es h =
    let r = named_cells es in
    let none : cell_of r (string_bytes k) ≡ None = cell_of-named_cells es (string_bytes k) ∙ ap (λ o. option_flatten o) (absent k es h) in
    ap (restore_of r (string_bytes k)) (sym none) ∙ restore_of-cell_of r (string_bytes k)

-- entries that ascend are seen one after another
in_order : (es : List (String Global × Option Cell)) → IsStrictlySortedBy string_cmp (keys_of es) → (named_cells es).entries ≡ filled es
in_order [] h = refl
in_order ((k, None) ∷ es) h = ap (λ (r : NamedCells). r.entries) (unfilled k es (sorted_head string_cmp k (keys_of es) h)) ∙ in_order es (sorted_tail string_cmp k (keys_of es) h)
in_order ((k, Some c) ∷ es) h = ap (put name_cmp (string_bytes k) c) (in_order es (sorted_tail string_cmp k (keys_of es) h)) ∙ put_first k c es (sorted_head string_cmp k (keys_of es) h)

-- so the names that have a cell stand in their order
pub names_in_order : (es : List (String Global × Option Cell)) (r : NamedCells) → named_cells es ≡ r → IsStrictlySortedBy string_cmp (keys_of es) → map (λ e. e.0) (filled es) ≡ names_of r
names_in_order es r seen h = ap (map (λ e. e.0)) (sym (in_order es h)) ∙ ap names_of seen

-- one more entry, as a walk over them meets it
pub filled_empty : (k : String Global) (v : Option Cell) (rest : List (String Global × Option Cell)) → false ≡ is_some v → filled ((k, v) ∷ rest) ≡ filled rest
filled_empty k None rest h = refl
filled_empty k (Some c) rest h = absurd cc

pub filled_push : (names : List (String Global)) (name k : String Global) (v : Option Cell) (rest : List (String Global × Option Cell)) → string_bytes name ≡ string_bytes k → true ≡ is_some v
    → map string_bytes (names ++ name ∷ []) ++ map (λ e. e.0) (filled rest) ≡ map string_bytes names ++ map (λ e. e.0) (filled ((k, v) ∷ rest))
filled_push names name k None rest same h = absurd cc
filled_push [] name k (Some c) rest same h = ap (λ n. n ∷ map (λ e. e.0) (filled rest)) same
filled_push (m ∷ ms) name k (Some c) rest same h = ap (λ ns. string_bytes m ∷ ns) (filled_push ms name k (Some c) rest same h)

-- ---- names that are kept

-- a name is kept just where a search by its bytes finds an entry
kept_found : (es : List (String Global × Option Cell)) (name : List ℕ) → list_any (is_name name) (kept_names es) ≡ is_some (lookup (λ k. is_eq (name_cmp name (string_bytes k))) es)
kept_found [] name = refl
kept_found (e ∷ es) name = ap (λ b. is_name name (string_bytes e.0) || b) (kept_found es name) ∙ either (is_name name (string_bytes e.0)) (lookup (λ k. is_eq (name_cmp name (string_bytes k))) es)
  where
    either : (b : Bool) (o : Option (Option Cell)) → (b || is_some o) ≡ is_some (cond b (Some e.1) o)
    either true o = refl
    either false o = refl

pub found_kept : (es : List (String Global × Option Cell)) (name : List ℕ) → Contains (kept_names es) name → IsSome (lookup (λ k. is_eq (name_cmp name (string_bytes k))) es)
found_kept es name h = sym (kept_found es name) ∙ list_any-from_Contains (eq_by_cmp_equiv name_cmp_total) name (kept_names es) h

pub kept_where_found : (es : List (String Global × Option Cell)) (name : List ℕ) → IsSome (lookup (λ k. is_eq (name_cmp name (string_bytes k))) es) → Contains (kept_names es) name
kept_where_found es name h = Contains-from_any (equal_keys name_cmp_exact) name (kept_names es) (kept_found es name ∙ h)

-- what a search says of a name, as what is kept
pub kept_by_search : (es : List (String Global × Option Cell)) (r : StoredResources) (name : List ℕ) → stored es ≡ r → true ≡ is_some (lookup (λ k. is_eq (name_cmp name (string_bytes k))) es) → Contains r.kept name
kept_by_search es r name seen h = subst (λ (s : StoredResources). Contains s.kept name) seen (kept_where_found es name (sym h))

pub not_kept_by_search : (es : List (String Global × Option Cell)) (r : StoredResources) (name : List ℕ) → stored es ≡ r → false ≡ is_some (lookup (λ k. is_eq (name_cmp name (string_bytes k))) es) → Contains r.kept name → ⊥
not_kept_by_search es r name seen h kept =
    let no : false ≡ true = h ∙ found_kept es name (subst (λ (s : StoredResources). Contains s.kept name) (sym seen) kept) in absurd cc

-- a name that got a place, and no other lost its own
pub kept_updated : (m n : BTreeMap (String Global) (Option Cell)) (name : List ℕ) (place : Option Cell)
    → UpdatesBy string_cmp (λ k. name_cmp name (string_bytes k)) m n (Some place) → Contains (kept_names n.entries) name × IsWider (kept_names m.entries) (kept_names n.entries)
kept_updated m n name place h = (kept_where_found n.entries name (ap is_some h.1), record { each = λ q c. kept_where_found n.entries q (wider q (found_kept m.entries q c)) })
  where
    either : (b : Bool) (o : Option (Option Cell)) → IsSome o → IsSome (cond b (Some place) o)
    either true o e = refl
    either false o e = e

    wider : (q : List ℕ) → IsSome (lookup (λ k. is_eq (name_cmp q (string_bytes k))) m.entries) → IsSome (lookup (λ k. is_eq (name_cmp q (string_bytes k))) n.entries)
    wider q e = ap is_some (btree_map_updates_text name m n (Some place) h q) ∙ either _ _ e

-- a name without an entry isn't kept, and giving it no cell changes nothing
none_there : (o : Option (Option Cell)) → false ≡ is_some o → None ≡ o
none_there None h = refl
none_there (Some x) h = absurd cc

pub emptied : (es : List (String Global × Option Cell)) (r : StoredResources) (name : List ℕ) → stored es ≡ r → false ≡ is_some (lookup (λ k. is_eq (name_cmp name (string_bytes k))) es) → restore_of r.cells name None ≡ r.cells
emptied es r name seen h =
    ap (restore_of r.cells name) (found_cell es r.cells name None (ap (λ (s : StoredResources). s.cells) seen) (none_there _ h)) ∙ restore_of-cell_of r.cells name

pub unkept : (es : List (String Global × Option Cell)) (r : StoredResources) (name : List ℕ) (cell : Option Cell) → stored es ≡ r
    → None ≡ lookup (λ k. is_eq (name_cmp name (string_bytes k))) es → (IsSome cell → Contains r.kept name) → restore_of r.cells name cell ≡ r.cells
unkept es r name None seen h kept =
    emptied es r name seen (ap is_some h)
unkept es r name (Some cell) seen h kept =
    absurd (not_kept_by_search es r name seen (ap is_some h) (kept refl))

-- the names of the cells are kept
pub holds_own : (es : List (String Global × Option Cell)) (r : StoredResources) → stored es ≡ r → Holds r.kept r.cells
holds_own es r seen = subst (λ (s : StoredResources). Holds s.kept s.cells) seen (record { each = λ name there. kept_where_found es name (inner _ (sym (ap is_some (cell_of-named_cells es name)) ∙ there)) })
  where
    inner : (o : Option (Option Cell)) → IsSome (option_flatten o) → IsSome o
    inner None h = h
    inner (Some x) h = refl

-- ---- names that are forgotten

-- a map in which a name has no place
pub forgotten : (m n : BTreeMap (String Global) (Option Cell)) (r : StoredResources) (name : List ℕ) → stored m.entries ≡ r → cell_of r.cells name ≡ None
    → UpdatesBy string_cmp (λ k. name_cmp name (string_bytes k)) m n None → Forgets r (kept_names n.entries) name
forgotten m n r name seen empty h = subst (λ (s : StoredResources). Forgets s (kept_names n.entries) name) seen (record {
  fewer = record { each = λ q c. kept_where_found m.entries q (older _ _ (sym (ap is_some (found q)) ∙ found_kept n.entries q c)) };
  others = λ q apart c. kept_where_found n.entries q (ap is_some (found q) ∙ stays q apart (found_kept m.entries q c));
  gone = λ e c. let no : false ≡ true = sym (ap is_some h.1) ∙ found_kept n.entries name c in absurd cc;
  stays = λ e. let no : false ≡ true = sym (ap is_some (ap (λ (s : StoredResources). cell_of s.cells name) seen ∙ empty)) ∙ e in absurd cc;
})
  where
    found : (q : List ℕ) → lookup (λ k. is_eq (name_cmp q (string_bytes k))) n.entries ≡ cond (is_name q name) None (lookup (λ k. is_eq (name_cmp q (string_bytes k))) m.entries)
    found q = btree_map_updates_text name m n None h q
        ∙ ap (λ b. cond b None (lookup (λ k. is_eq (name_cmp q (string_bytes k))) m.entries)) (sym (is_eq-slice_cmp name q) ∙ (eq_by_cmp_equiv name_cmp_total).symm name q)

    older : (b : Bool) (o : Option (Option Cell)) → IsSome (cond b None o) → IsSome o
    older true o e = let no : false ≡ true = e in absurd cc
    older false o e = e

    stays : (q : List ℕ) → q ≢ name → IsSome (lookup (λ k. is_eq (name_cmp q (string_bytes k))) m.entries) → IsSome (cond (is_name q name) None (lookup (λ k. is_eq (name_cmp q (string_bytes k))) m.entries))
    stays q apart e = elim (is_name q name) as (λ b. is_name q name ≡ b → IsSome (cond b None (lookup (λ k. is_eq (name_cmp q (string_bytes k))) m.entries))) [
      | true ↦ λ same. absurd (apart (equal_keys name_cmp_exact q name same))
      | false ↦ λ same. e
    ] refl

-- a name with a cell stays
pub not_forgotten : (r : StoredResources) (name : List ℕ) → Holds r.kept r.cells → IsSome (cell_of r.cells name) → Forgets r r.kept name
not_forgotten r name held there = record {
  fewer = record { each = λ q c. c };
  others = λ q apart c. c;
  gone = λ e c. let no : false ≡ true = sym (ap is_some e) ∙ there in absurd cc;
  stays = λ e. held.each name e;
}

-- ---- a trim

-- the entries without those that have no cell
pub cells_trimmed : (es : List (String Global × Option Cell)) → IsStrictlySortedBy string_cmp (keys_of es) → named_cells (filter (λ e. is_some e.1) es) ≡ named_cells es
cells_trimmed [] h = refl
cells_trimmed ((k, None) ∷ es) h = cells_trimmed es (sorted_tail string_cmp k (keys_of es) h) ∙ sym (unfilled k es (sorted_head string_cmp k (keys_of es) h))
cells_trimmed ((k, Some c) ∷ es) h = ap (λ r. restore_of r (string_bytes k) (Some c)) (cells_trimmed es (sorted_tail string_cmp k (keys_of es) h))

pub names_trimmed : (es : List (String Global × Option Cell)) → kept_names (filter (λ e. is_some e.1) es) ≡ map (λ e. e.0) (filled es)
names_trimmed [] = refl
names_trimmed ((k, None) ∷ es) = names_trimmed es
names_trimmed ((k, Some c) ∷ es) = ap (λ names. string_bytes k ∷ names) (names_trimmed es)
