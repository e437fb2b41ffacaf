-- The entries of the map of the code, as the cells of their names.
use Rattle.std.proofs.Common.{◌≡◌, ℕ, Bool, true, false, cond, List, [], ◌∷◌, refl, ap, sym, ◌∙◌, Option, Some, String, string_bytes}
use Rattle.std.specs.declared.alloc.Global.{Global}
use Rattle.std.specs.BTreeMap.{BTreeMap, UpdatesBy}
use Rattle.std.specs.Cmp.{eq_by_cmp_equiv}
use Rattle.std.specs.List.{AllZip}
use Rattle.std.specs.Map.{lookup}
use Rattle.std.specs.Option.{option_flatten}
use Rattle.std.specs.Ordering.{is_eq}
use Rattle.std.specs.String.{string_cmp}
use Rattle.std.proofs.lemmas.Map.Text.{btree_map_updates_text, is_eq-slice_cmp}
use Rattle.scene_kinds.specs.declared.cell.Cell.{Cell}
use Rattle.scene_kinds.proofs.Maps.{same_map}
use Rattle.scene_resources.specs.Resources.{NamedCells, name_cmp, name_cmp_total, name_cmp_exact, cell_of, restore_of}
use Rattle.scene_resources.specs.Entries.{named_cells, stored}
use Rattle.scene_resources.proofs.ResourceLaws.{is_name, restored_cells}

-- ---- the map's entries

-- a choice of what may be nothing, against the choice of it
flat_choice : (b : Bool) (o : Option Cell) (r : Option (Option Cell)) → cond b o (option_flatten r) ≡ option_flatten (cond b (Some o) r)
flat_choice true o r = refl
flat_choice false o r = refl

-- the cell of a name is what a search by its bytes finds
pub cell_of-named_cells : (es : List (String Global × Option Cell)) (q : List ℕ) → cell_of (named_cells es) q ≡ option_flatten (lookup (λ k. is_eq (name_cmp q (string_bytes k))) es)
cell_of-named_cells [] q = refl
cell_of-named_cells (e ∷ es) q = restored_cells (named_cells es) (string_bytes e.0) e.1 q ∙ ap (cond (is_name q (string_bytes e.0)) e.1) (cell_of-named_cells es q)
    ∙ flat_choice (is_name q (string_bytes e.0)) e.1 (lookup (λ k. is_eq (name_cmp q (string_bytes k))) es)

-- what a search in a map finds, as the cell of the map that it is seen as
pub found_cell : (es : List (String Global × Option Cell)) (r : NamedCells) (name : List ℕ) (o : Option (Option Cell)) → named_cells es ≡ r → o ≡ lookup (λ k. is_eq (name_cmp name (string_bytes k))) es → option_flatten o ≡ cell_of r name
found_cell es r name o seen h = ap (λ o. option_flatten o) h ∙ sym (cell_of-named_cells es name) ∙ ap (λ r. cell_of r name) seen

-- a map in which one name got a cell or lost it
pub cells_updated : (m n : BTreeMap (String Global) (Option Cell)) (r : NamedCells) (name : List ℕ) (place : Option (Option Cell)) → named_cells m.entries ≡ r
    → UpdatesBy string_cmp (λ k. name_cmp name (string_bytes k)) m n place → named_cells n.entries ≡ restore_of r name (option_flatten place)
cells_updated m n r name place seen h = same_map name_cmp_total name_cmp_exact _ _ (λ q.
    cell_of-named_cells n.entries q ∙ ap (λ o. option_flatten o) (btree_map_updates_text name m n place h q
    ∙ ap (λ b. cond b place (lookup (λ k. is_eq (name_cmp q (string_bytes k))) m.entries)) (sym (is_eq-slice_cmp name q) ∙ (eq_by_cmp_equiv name_cmp_total).symm name q))
    ∙ flattened (is_name q name) place (lookup (λ k. is_eq (name_cmp q (string_bytes k))) m.entries)
    ∙ ap (cond (is_name q name) (option_flatten place)) (found_cell m.entries r q _ seen refl) ∙ sym (restored_cells r name (option_flatten place) q))
  where
    flattened : (b : Bool) (o r : Option (Option Cell)) → option_flatten (cond b o r) ≡ cond b (option_flatten o) (option_flatten r)
    flattened true o r = refl
    flattened false o r = refl

-- entries that are clones of each other are the same cells and names
pub cells_clone : (D : Option Cell → Option Cell → Type 0) → ((x y : Option Cell) → D x y → y ≡ x) → (es fs : List (String Global × Option Cell))
    → AllZip (λ p q. (string_bytes q.0 ≡ string_bytes p.0) × D p.1 q.1) es fs → stored fs ≡ stored es
cells_clone D same [] [] h = refl
cells_clone D same [] (f ∷ fs) h = absurd h
cells_clone D same (e ∷ es) [] h = absurd h
cells_clone D same (e ∷ es) (f ∷ fs) h = λ i.
    let rest = cells_clone D same es fs h.1 i in
    record { cells = restore_of rest.cells (h.0.0 i) (same e.1 f.1 h.0.1 i); kept = h.0.0 i ∷ rest.kept }
