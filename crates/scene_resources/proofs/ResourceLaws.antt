-- Laws of named cells that users cite: what a restore gives, which names there are, and what stays kept.
use Rattle.std.proofs.Common.{◌≡◌, ℕ, cond, Bool, true, false, List, [], ◌∷◌, refl, ap, sym, ◌∙◌, map, Option, Some, None, Ok}
use Rattle.std.specs.Prelude.{◌↔◌, T, Contains, IsSome}
use Rattle.std.specs.declared.cmp.Ordering.TheVariants.{Less}
use Rattle.std.specs.Cmp.{eq_by_cmp_equiv}
use Rattle.std.specs.FinMap.Entries.{find, below_all, is_sorted, is_some-find}
use Rattle.std.specs.List.{AllByRecursion}
use Rattle.std.specs.List.Sorted.{IsStrictlySortedBy}
use Rattle.std.specs.Map.{keys_of}
use Rattle.std.specs.Ordering.{eq_by_cmp, is_eq, is_lt, ordering_reverse}
use Rattle.std.proofs.lemmas.Map.Views.{list_any-from_Contains, Contains-from_any}
use Rattle.scene_kinds.specs.declared.cell.Cell.{Cell}
use Rattle.scene_kinds.specs.declared.value.Value.{Value}
use Rattle.scene_kinds.specs.Cells.{put_over}
use Rattle.scene_kinds.specs.Map as map_of
use Rattle.scene_kinds.proofs.Maps.{get-insert, get-remove, same_map, ties_itself, equal_keys}
use Rattle.scene_kinds.proofs.Choices.{absorbed, test_parts, less}
use Rattle.scene_resources.specs.Resources.{NamedCells, IsWider, Holds, name_cmp, name_cmp_total, name_cmp_exact, cell_of, names_of, put_of, restore_of, taken, take_of}

-- two names are the same
abbrev pub is_name : List ℕ → List ℕ → Bool
is_name a b = eq_by_cmp name_cmp a b

-- ---- restoring

-- the cell of each name after one was restored
pub restored_cells : (r : NamedCells) (name : List ℕ) (cell : Option Cell) (q : List ℕ) → cell_of (restore_of r name cell) q ≡ cond (is_name q name) cell (cell_of r q)
restored_cells r name None q = get-remove name_cmp_total r name q
restored_cells r name (Some cell) q = get-insert name_cmp_total r name cell q

-- only the last cell that a name is given counts
pub last_restored : (r : NamedCells) (name : List ℕ) (c d : Option Cell) → restore_of (restore_of r name c) name d ≡ restore_of r name d
last_restored r name c d = same_map name_cmp_total name_cmp_exact _ _ (λ q.
    restored_cells (restore_of r name c) name d q ∙ ap (cond (is_name q name) d) (restored_cells r name c q)
    ∙ absorbed (is_name q name) d c (cell_of r q) ∙ sym (restored_cells r name d q))

-- the cell that a name has, put in its own place
pub restore_of-cell_of : (r : NamedCells) (name : List ℕ) → restore_of r name (cell_of r name) ≡ r
restore_of-cell_of r name = same_map name_cmp_total name_cmp_exact _ _ (λ q. restored_cells r name (cell_of r name) q
    ∙ elim (is_name q name) as (λ b. is_name q name ≡ b → cond b (cell_of r name) (cell_of r q) ≡ cell_of r q) [
      | true ↦ λ e. ap (cell_of r) (sym (equal_keys name_cmp_exact q name e))
      | false ↦ λ e. refl
    ] refl)

-- another cell, and then the one before
pub restore_restores : (r : NamedCells) (name : List ℕ) (cell : Option Cell) → restore_of (restore_of r name cell) name (cell_of r name) ≡ r
restore_restores r name cell = last_restored r name cell (cell_of r name) ∙ restore_of-cell_of r name

-- a put, and then the cell before
pub put_restores : (r : NamedCells) (name : List ℕ) (value : Value) (tick : ℕ) → restore_of (put_of r name value tick) name (cell_of r name) ≡ r
put_restores r name value tick = restore_restores r name (Some (put_over (cell_of r name) value tick))

-- a cell that was taken, given back
pub take_restores : (r s : NamedCells) (name : List ℕ) (cell : Cell) → take_of r name ≡ Ok (cell, s) → restore_of s name (Some cell) ≡ r
take_restores r s name cell h = by_cell (cell_of r name) refl
  where
    by_cell : (o : Option Cell) → cell_of r name ≡ o → restore_of s name (Some cell) ≡ r
    by_cell None e = let no = sym (ap (taken r name) e) ∙ h in cc
    by_cell (Some old) e =
        let yes : taken r name (Some old) ≡ Ok (cell, s) = sym (ap (taken r name) e) ∙ h in
        let same : (old, map_of.remove r name) ≡ (cell, s) = cc in
        sym (ap (λ (t : Cell × NamedCells). restore_of t.1 name (Some t.0)) same) ∙ ap (restore_of (map_of.remove r name) name) (sym e) ∙ restore_restores r name None

-- ---- named cells

-- a name below those of all entries
below_names : (name : List ℕ) (es : List (List ℕ × Cell)) → T (below_all name_cmp name es) → AllByRecursion (λ k. name_cmp name k ≡ Less) (keys_of es)
below_names name [] h = tt
below_names name (e ∷ es) h = let parts = test_parts (is_lt (name_cmp name e.0)) (below_all name_cmp name es) h in (less _ parts.0, below_names name es parts.1)

rising_names : (es : List (List ℕ × Cell)) → T (is_sorted name_cmp es) → IsStrictlySortedBy name_cmp (keys_of es)
unfolding IsStrictlySortedBy
rising_names [] h = tt
rising_names (e ∷ es) h = let parts = test_parts (below_all name_cmp e.0 es) (is_sorted name_cmp es) h in (below_names e.0 es parts.0, rising_names es parts.1)

-- each name is below those after it
pub names_ascend : (r : NamedCells) → IsStrictlySortedBy name_cmp (names_of r)
names_ascend r = rising_names r.entries r.sorted

-- the names are those that have a cell
pub names_whole : (r : NamedCells) (name : List ℕ) → Contains (names_of r) name ↔ IsSome (cell_of r name)
names_whole r name = (
  (λ h. is_some-find name_cmp name r.entries ∙ list_any-from_Contains (eq_by_cmp_equiv name_cmp_total) name (names_of r) h),
  (λ h. Contains-from_any (equal_keys name_cmp_exact) name (names_of r) (sym (is_some-find name_cmp name r.entries) ∙ h)),
)

-- names above that of an entry find what they find past it
found_past : (e : List ℕ × Cell) (es fs : List (List ℕ × Cell)) → AllByRecursion (λ k. name_cmp e.0 k ≡ Less) (keys_of fs)
    → map (λ name. find name_cmp name (e ∷ es)) (keys_of fs) ≡ map (λ name. find name_cmp name es) (keys_of fs)
found_past e es [] h = refl
found_past e es (f ∷ fs) h = λ i. cond (is_eq ((name_cmp_total.antisymm f.0 e.0 ∙ ap ordering_reverse h.0) i)) (Some e.1) (find name_cmp f.0 es) ∷ found_past e es fs h.1 i

found_in_order : (es : List (List ℕ × Cell)) → T (is_sorted name_cmp es) → map (λ name. find name_cmp name es) (keys_of es) ≡ map (λ e. Some e.1) es
found_in_order [] h = refl
found_in_order (e ∷ es) h = let parts = test_parts (below_all name_cmp e.0 es) (is_sorted name_cmp es) h in
    λ i. cond (ties_itself name_cmp_total e.0 i) (Some e.1) (find name_cmp e.0 es) ∷ (found_past e es es (below_names e.0 es parts.0) ∙ found_in_order es parts.1) i

-- the cells of the names, one after another, are all cells
pub names_found : (r : NamedCells) → map (cell_of r) (names_of r) ≡ map (λ e. Some e.1) r.entries
names_found r = found_in_order r.entries r.sorted

-- ---- names that are kept

-- names that hold some cells still do where more are kept
pub wider_room_holds : (old new : List (List ℕ)) (r : NamedCells) → IsWider old new → Holds old r → Holds new r
wider_room_holds old new r w h = record { each = λ name there. w.each name (h.each name there) }

pub wider_of_wider : (a b c : List (List ℕ)) → IsWider a b → IsWider b c → IsWider a c
wider_of_wider a b c u v = record { each = λ name there. v.each name (u.each name there) }
