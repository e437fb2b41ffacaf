-- Rows that were written are read again, and the kinds of their table.
use Rattle.std.proofs.Common.{◌≡◌, ℕ, zero, suc, ◌+◌, ◌^◌, ◌<◌, ◌≤◌, Bool, true, false, cond, List, [], ◌∷◌, length, refl, ap, sym, subst, ◌∙◌, arith, Some, None, Ok, is_some, nat_eq, nat_lt}
use Rattle.std.specs.Prelude.{map as each, codes, filter, fold}
use Rattle.std.specs.List.{list_all, range_with_len, zip, AllByRecursion, cons_option}
use Rattle.std.specs.Ordering.{nat_cmp, eq_by_cmp}
use Rattle.std.specs.Cmp.{nat_cmp_total}
use Rattle.std.specs.FinMap.{nat_cmp-IsAntisymmetric}
use Rattle.std.specs.FinMap.Entries.{find, is_sorted, below_all}
use Rattle.std.proofs.lemmas.Bool.{eq-eqb, lt-ltb, false_from_ne_true}
use Rattle.scene_kinds.specs.declared.cell.Cell.{Cell}
use Rattle.scene_kinds.specs.declared.cells.Row.{Row}
use Rattle.scene_kinds.specs.declared.shape.Shape.{Shape}
use Rattle.scene_kinds.specs.Cells.{IsAscending, mask_of}
use Rattle.scene_kinds.specs.KindSet.{has_kind}
use Rattle.scene_kinds.specs.Ranges.{is_entity}
use Rattle.scene_kinds.specs.Schema.{Kinds, fits_kind}
use Rattle.scene_kinds.specs.Shape.{shape_of_value}
use Rattle.scene_kinds.proofs.Choices.{test_parts}
use Rattle.scene_kinds.proofs.KindSets.{has_kind-mask_of}
use Rattle.scene_kinds.proofs.Maps.{equal_keys, ties_itself}
use Rattle.scene_model.specs.Valid.{IsRowOf}
use Rattle.scene_validate.specs.Parts.{keys}
use Rattle.scene_validate.proofs.Tests.{and_is, all_with}
use Rattle.scene_json_forms.specs.Reading.{◌>>=◌, if_good, elements, place_in, under}
use Rattle.scene_json_forms.specs.Text.{items_of, entity_json, cell_text}
use Rattle.scene_file.specs.Text.{row_text, kinds_of}
use Rattle.scene_json_forms.specs.Walk.{entity_at, cell_at}
use Rattle.scene_file.specs.Walk.{cells_from, shapes_of, set_of, row_at}
use Rattle.scene_json_forms.proofs.FitKinds.{fits_is, all_above}
use Rattle.scene_json_forms.proofs.ListsBack.{ReadsBack, after, good, elements_written, Follow}
use Rattle.scene_json_forms.proofs.ValuesBack.{entity_back, cell_back}

abbrev pub Cells : Type 0
Cells = List (ℕ × Cell)

-- ---- cells that fit

abbrev pub AllFit : Kinds → Cells → Type 0
AllFit schema cells = list_all (λ c. fits_kind schema c.1.value c.0) cells ≡ true

pub low_kinds : (schema : Kinds) (cells : Cells) → AllFit schema cells → AllByRecursion (λ k. k < length schema) (keys cells)
low_kinds schema [] h = tt
low_kinds schema (c ∷ cs) h = let p = and_is (fits_kind schema c.1.value c.0) (list_all (λ c. fits_kind schema c.1.value c.0) cs) h in
    ((fits_is schema c.1.value c.0 p.0).low, low_kinds schema cs p.1)

-- ---- cells

cells_back : (schema : Kinds) (cells : Cells) → AllFit schema cells → (path : List ℕ) (i : ℕ)
    → cells_from (shapes_of schema (keys cells)) path i (each (λ (c : ℕ × Cell). cell_text c.1) cells) ≡ Ok (each (λ (c : ℕ × Cell). c.1) cells)
cells_back schema [] h path i = refl
cells_back schema (c ∷ cs) h path i =
    let p = and_is (fits_kind schema c.1.value c.0) (list_all (λ c. fits_kind schema c.1.value c.0) cs) h in
    let f = fits_is schema c.1.value c.0 p.0 in
    ap (λ o. cells_from (cons_option o (shapes_of schema (keys cs))) path i (cell_text c.1 ∷ each (λ (c : ℕ × Cell). cell_text c.1) cs)) f.shape
    ∙ after (cell_at (shape_of_value c.1.value) (place_in path i) (cell_text c.1)) c.1
    (λ x. cells_from (shapes_of schema (keys cs)) path (i + 1) (each (λ (c : ℕ × Cell). cell_text c.1) cs) >>= λ rest. Ok (x ∷ rest))
    (Ok (c.1 ∷ each (λ (c : ℕ × Cell). c.1) cs)) (cell_back c.1 f.range (place_in path i))
    (after (cells_from (shapes_of schema (keys cs)) path (i + 1) (each (λ (c : ℕ × Cell). cell_text c.1) cs)) (each (λ (c : ℕ × Cell). c.1) cs)
    (λ rest. Ok (c.1 ∷ rest))
    (Ok (c.1 ∷ each (λ (c : ℕ × Cell). c.1) cs)) (cells_back schema cs p.1 path (i + 1)) refl)

as_many : (schema : Kinds) (cells : Cells) → AllFit schema cells
    → length (each (λ (c : ℕ × Cell). cell_text c.1) cells) ≡ length (shapes_of schema (keys cells))
as_many schema [] h = refl
as_many schema (c ∷ cs) h =
    let p = and_is (fits_kind schema c.1.value c.0) (list_all (λ c. fits_kind schema c.1.value c.0) cs) h in
    ap suc (as_many schema cs p.1) ∙ sym (ap (λ o. length (cons_option o (shapes_of schema (keys cs)))) (fits_is schema c.1.value c.0 p.0).shape)

zip_keys : (cells : Cells) → zip (keys cells) (each (λ (c : ℕ × Cell). c.1) cells) ≡ cells
zip_keys [] = refl
zip_keys (c ∷ cs) = ap (λ (zs : Cells). c ∷ zs) (zip_keys cs)

-- ---- rows

own_row_back : (schema : Kinds) (r : Row) → is_entity r.entity ≡ true → AllFit schema r.cells
    → ReadsBack (row_at (keys r.cells) (shapes_of schema (keys r.cells))) row_text r
own_row_back schema r e h path =
    let texts : List _ = each (λ (c : ℕ × Cell). cell_text c.1) r.cells in
    let shapes : List Shape = shapes_of schema (keys r.cells) in
    let cells : List Cell = each (λ (c : ℕ × Cell). c.1) r.cells in
    let at : List ℕ = under path (codes "cells") in
    after (if_good at (nat_eq (length (elements (items_of texts))) (length shapes)) (elements (items_of texts)) >>= cells_from shapes at 0) cells
    (λ cs. entity_at (under path (codes "entity")) (entity_json r.entity)
    >>= λ entity. Ok (record { entity = entity; cells = zip (keys r.cells) cs })) (Ok r)
    (ap (λ ds. if_good at (nat_eq (length ds) (length shapes)) ds >>= cells_from shapes at 0) (elements_written texts)
    ∙ after (if_good at (nat_eq (length texts) (length shapes)) texts) texts (cells_from shapes at 0) (Ok cells)
    (good at (nat_eq (length texts) (length shapes)) texts (eq-eqb (length texts) (length shapes) (as_many schema r.cells h)))
    (cells_back schema r.cells h at 0))
    (after (entity_at (under path (codes "entity")) (entity_json r.entity)) r.entity
    (λ entity. Ok (record { entity = entity; cells = zip (keys r.cells) cells })) (Ok r)
    (entity_back r.entity e (under path (codes "entity"))) (ap (λ (cs : Cells). Ok (record { entity = r.entity; cells = cs })) (zip_keys r.cells)))

pub row_back : (schema : Kinds) (r : Row) (kinds : List ℕ) → is_entity r.entity ≡ true → AllFit schema r.cells → keys r.cells ≡ kinds
    → ReadsBack (row_at kinds (shapes_of schema kinds)) row_text r
row_back schema r kinds e h s = subst (λ ks. ReadsBack (row_at ks (shapes_of schema ks)) row_text r) s (own_row_back schema r e h)

-- ---- the kinds of a set

not_equal : (a b : ℕ) → (a ≡ b → ⊥) → eq_by_cmp nat_cmp a b ≡ false
not_equal a b h = false_from_ne_true (eq_by_cmp nat_cmp a b) (λ t. h (equal_keys nat_cmp-IsAntisymmetric a b t))

absent : (kind : ℕ) (cells : Cells) → AllByRecursion (λ c. kind < c.0) cells → find nat_cmp kind cells ≡ None
absent kind [] h = refl
absent kind (c ∷ cs) h = ap (λ b. cond b (Some c.1) (find nat_cmp kind cs)) (not_equal kind c.0 (λ e. let l = h.0 in omega (arith, l, e)))
    ∙ absent kind cs h.1

filter_same : (f g : ℕ → Bool) (n a : ℕ) → ((k : ℕ) → a ≤ k → f k ≡ g k) → filter f (range_with_len a n) ≡ filter g (range_with_len a n)
filter_same f g zero a h = refl
filter_same f g (suc n) a h =
    ap (λ b. cond b (a ∷ filter f (range_with_len (a + 1) n)) (filter f (range_with_len (a + 1) n))) (h a (omega arith))
    ∙ ap (λ zs. cond (g a) (a ∷ zs) zs) (filter_same f g n (a + 1) (λ k l. h k (omega (arith, l))))

-- ascending kinds in a range are those that a search of the range finds
found_kinds : (n a : ℕ) (cells : Cells) → IsAscending cells → AllByRecursion (λ c. (a ≤ c.0) × (c.0 < a + n)) cells
    → filter (λ k. is_some (find nat_cmp k cells)) (range_with_len a n) ≡ keys cells
found_kinds zero a [] s h = refl
found_kinds zero a (c ∷ cs) s h = let l = h.0.0 in let m = h.0.1 in absurd (omega (arith, l, m))
found_kinds (suc n) a [] s h = found_kinds n (a + 1) [] tt tt
found_kinds (suc n) a (c ∷ cs) s h =
    let p = test_parts (below_all nat_cmp c.0 cs) (is_sorted nat_cmp cs) s in
    let above = all_above c.0 cs p.0 in
    let rest : List ℕ = filter (λ k. is_some (find nat_cmp k (c ∷ cs))) (range_with_len (a + 1) n) in
    elim (eq_by_cmp nat_cmp a c.0)
    as (λ b. eq_by_cmp nat_cmp a c.0 ≡ b → cond (is_some (cond b (Some c.1) (find nat_cmp a cs))) (a ∷ rest) rest ≡ c.0 ∷ keys cs) [
      | true ↦ λ t.
          let e : a ≡ c.0 = equal_keys nat_cmp-IsAntisymmetric a c.0 t in
          ap (λ zs. a ∷ zs)
          (filter_same (λ k. is_some (find nat_cmp k (c ∷ cs))) (λ k. is_some (find nat_cmp k cs)) n (a + 1)
          (λ k l. ap (λ b. is_some (cond b (Some c.1) (find nat_cmp k cs))) (not_equal k c.0 (λ f. omega (arith, l, e, f))))
          ∙ found_kinds n (a + 1) cs p.1 (within e cs above h.1))
          ∙ ap (λ m. m ∷ keys cs) e
      | false ↦ λ t.
          let ne : (a ≡ c.0 → ⊥) = λ e. let k : true ≡ false = sym (ties_itself nat_cmp_total c.0) ∙ ap (λ m. eq_by_cmp nat_cmp m c.0) (sym e) ∙ t in
          absurd (cc) in
          let l = h.0.0 in
          let m = h.0.1 in
          let first : a < c.0 = omega (arith, l, ne) in
          ap (λ o. cond (is_some o) (a ∷ rest) rest)
          (absent a cs (all_with (λ d. c.0 < d.0) (λ d. a < d.0) (λ d k. omega (arith, k, first)) cs above))
          ∙ found_kinds n (a + 1) (c ∷ cs) s ((omega (arith, first), omega (arith, m)), further first cs above h.1)
    ] refl
  where
    within : a ≡ c.0 → (ds : Cells) → AllByRecursion (λ d. c.0 < d.0) ds → AllByRecursion (λ d. (a ≤ d.0) × (d.0 < a + suc n)) ds
        → AllByRecursion (λ d. (a + 1 ≤ d.0) × (d.0 < (a + 1) + n)) ds
    within e [] u v = tt
    within e (d ∷ ds) u v = let k = u.0 in let m = v.0.1 in ((omega (arith, k, e), omega (arith, m)), within e ds u.1 v.1)

    further : a < c.0 → (ds : Cells) → AllByRecursion (λ d. c.0 < d.0) ds → AllByRecursion (λ d. (a ≤ d.0) × (d.0 < a + suc n)) ds
        → AllByRecursion (λ d. (a + 1 ≤ d.0) × (d.0 < (a + 1) + n)) ds
    further l [] u v = tt
    further l (d ∷ ds) u v = let k = u.0 in let m = v.0.1 in ((omega (arith, k, l), omega (arith, m)), further l ds u.1 v.1)

low_cells : (schema : Kinds) (cells : Cells) → AllFit schema cells → length schema ≤ 64 → AllByRecursion (λ c. (0 ≤ c.0) × (c.0 < 0 + 64)) cells
low_cells schema [] h few = tt
low_cells schema (c ∷ cs) h few =
    let p = and_is (fits_kind schema c.1.value c.0) (list_all (λ c. fits_kind schema c.1.value c.0) cs) h in
    let l = (fits_is schema c.1.value c.0 p.0).low in ((omega arith, omega (arith, l, few)), low_cells schema cs p.1 few)

-- the kinds of the set of cells whose kinds ascend, all below the 64th, are those of the cells
pub kinds_of_cells : (cells : Cells) → IsAscending cells → AllByRecursion (λ c. (0 ≤ c.0) × (c.0 < 0 + 64)) cells
    → kinds_of (mask_of cells) ≡ keys cells
kinds_of_cells cells s low =
    filter_same (has_kind (mask_of cells)) (λ k. is_some (find nat_cmp k cells)) 64 0 (λ k l. has_kind-mask_of cells k s)
    ∙ found_kinds 64 0 cells s low

-- the kinds of a table's set are those of each of its rows
pub kinds_of_row : (schema : Kinds) (mask : ℕ) (r : Row) → IsRowOf schema mask r → length schema ≤ 64 → kinds_of mask ≡ keys r.cells
kinds_of_row schema mask r h few =
    ap kinds_of (sym h.kinds.kinds) ∙ kinds_of_cells r.cells h.kinds.ascending (low_cells schema r.cells h.shapes few)

set_keys : (n : ℕ) (cells : Cells) → fold (λ a k. a + 2 ^ k) n (keys cells) ≡ fold (λ a (c : ℕ × Cell). a + 2 ^ c.0) n cells
set_keys n [] = refl
set_keys n (c ∷ cs) = set_keys (n + 2 ^ c.0) cs

-- the set of the kinds of cells
pub set_of_cells : (cells : Cells) → set_of (keys cells) ≡ mask_of cells
set_of_cells cells = set_keys 0 cells

pub set_of_row : (schema : Kinds) (mask : ℕ) (r : Row) → IsRowOf schema mask r → set_of (keys r.cells) ≡ mask
set_of_row schema mask r h = set_of_cells r.cells ∙ h.kinds.kinds

-- they rise
rise_after : (kind : ℕ) (cells : Cells) → IsAscending cells → AllByRecursion (λ c. kind < c.0) cells → Follow nat_lt (Some kind) (keys cells)
rise_after kind [] s h = tt
rise_after kind (c ∷ cs) s h =
    let p = test_parts (below_all nat_cmp c.0 cs) (is_sorted nat_cmp cs) s in
    (lt-ltb kind c.0 h.0, rise_after c.0 cs p.1 (all_above c.0 cs p.0))

pub kinds_rise : (cells : Cells) → IsAscending cells → Follow nat_lt None (keys cells)
kinds_rise [] s = tt
kinds_rise (c ∷ cs) s = let p = test_parts (below_all nat_cmp c.0 cs) (is_sorted nat_cmp cs) s in (refl, rise_after c.0 cs p.1 (all_above c.0 cs p.0))
