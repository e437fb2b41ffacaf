-- What is read of rows, and of the kinds of their table, is just what stands there.
use Rattle.std.proofs.Common.{◌≡◌, ℕ, zero, suc, ◌+◌, ◌<◌, ◌≤◌, true, cond, List, [], ◌∷◌, length, Option, Some, None, Ok, nat_eq, nat_lt, refl, ap, sym, subst, ◌∙◌, arith, codes}
use Rattle.std.specs.Prelude.{map as each, ◌==◌}
use Rattle.std.specs.List.{zip, cons_option, AllByRecursion}
use Rattle.std.specs.Ordering.{nat_cmp}
use Rattle.std.specs.declared.cmp.Ordering.TheVariants.{Less, Equal, Greater}
use Rattle.std.specs.Cmp.{nat_cmp_total}
use Rattle.serde_json.specs.Data.{Data}
use Rattle.serde_json.specs.Find.{get_member}
use Rattle.scene_kinds.specs.declared.cell.Cell.{Cell}
use Rattle.scene_kinds.specs.declared.cells.Row.{Row}
use Rattle.scene_kinds.specs.declared.shape.Shape.{Shape}
use Rattle.scene_kinds.specs.declared.value.Value.TheVariants as value
use Rattle.scene_kinds.specs.Schema.{Kinds, shape_of}
use Rattle.scene_validate.specs.Parts.{keys}
use Rattle.scene_json_forms.specs.Reading.{◌>>=◌, if_good, below, list_at, list_of, may_follow, rising_of, place_in, under, object_at, key_of}
use Rattle.scene_file.specs.TableKinds.{AreRising}
use Rattle.scene_json_forms.specs.Text.{array_of, list_text, count_text, entity_json, cell_text}
use Rattle.scene_file.specs.Text.{row_text, kinds_of, table_text}
use Rattle.scene_json_forms.specs.Walk.{entity_at, cell_at}
use Rattle.scene_file.specs.Walk.{cells_from, cells_at, row_at, shapes_of, set_of, table_at}
use Rattle.scene_json_forms.proofs.Ascending.{IsAbove, Ascend}
use Rattle.scene_file.proofs.RisingMaps.{sorted_is}
use Rattle.scene_json_forms.proofs.ReadValues.{IsRead}
use Rattle.scene_json_forms.proofs.ListsExact.{IsExact, list_was, list_exact, rising_key, key_was, key_exact, object_was, object_is}
use Rattle.scene_json_forms.proofs.ValuesExact.{below_exact, entity_exact, cell_exact}
use Rattle.scene_file.proofs.RowsBack.{kinds_of_cells, set_of_cells}
use Rattle.scene_json_forms.proofs.GoodSteps.{ok_after, good_was, ok_is, no_field}
use Rattle.scene_file.proofs.TableKinds.{kinds_in, widened}

-- ---- cells

cells_exact : (shapes : List Shape) (path : List ℕ) (i : ℕ) (ds : List Data) (cs : List Cell) → AllByRecursion IsRead ds
    → cells_from shapes path i ds ≡ Ok cs
    → (ds ≡ each cell_text cs) × (length cs ≡ length shapes)
cells_exact [] path i [] cs r h = let same : [] ≡ cs = ok_is [] cs h in (ap (each cell_text) same, ap length (sym same))
cells_exact [] path i (d ∷ ds) cs r h = no_field path cs h
cells_exact (s ∷ ss) path i [] cs r h = no_field path cs h
cells_exact (s ∷ ss) path i (d ∷ ds) cs r h =
    let p = ok_after (cell_at s (place_in path i) d) (λ c. cells_from ss path (i + 1) ds >>= λ rest. Ok (c ∷ rest)) cs h in
    let q = ok_after (cells_from ss path (i + 1) ds) (λ rest. Ok (p.0 ∷ rest)) cs p.2 in
    let first : d ≡ cell_text p.0 = cell_exact s (place_in path i) d p.0 r.0 p.1 in
    let rest = cells_exact ss path (i + 1) ds q.0 r.1 q.1 in
    let same : p.0 ∷ q.0 ≡ cs = ok_is (p.0 ∷ q.0) cs q.2 in
    ((λ i. first i ∷ rest.0 i) ∙ ap (each cell_text) same, ap length (sym same) ∙ ap suc rest.1)

cells_was : (shapes : List Shape) (path : List ℕ) (d : Data) (cs : List Cell) → IsRead d → cells_at shapes path d ≡ Ok cs
    → (d ≡ list_text cell_text cs) × (length cs ≡ length shapes)
cells_was shapes path d cs r h =
    let p = ok_after (list_at path d) (λ cells. if_good path (nat_eq (length cells) (length shapes)) cells >>= cells_from shapes path 0) cs h in
    let w = list_was path d p.0 p.1 r in
    let q = ok_after (if_good path (nat_eq (length p.0) (length shapes)) p.0) (cells_from shapes path 0) cs p.2 in
    let g = good_was path (nat_eq (length p.0) (length shapes)) p.0 q.0 q.1 in
    let e = cells_exact shapes path 0 q.0 cs (subst (AllByRecursion IsRead) g.1 w.1) q.2 in
    (w.0 ∙ ap array_of (g.1 ∙ e.0), e.1)

-- ---- rows

zipped : (ks : List ℕ) (cs : List Cell) → length cs ≡ length ks → each (λ (c : ℕ × Cell). cell_text c.1) (zip ks cs) ≡ each cell_text cs
zipped [] [] h = refl
zipped [] (c ∷ cs) h = absurd (omega (arith, h))
zipped (k ∷ ks) [] h = absurd (omega (arith, h))
zipped (k ∷ ks) (c ∷ cs) h = let less : length cs ≡ length ks = omega (arith, h) in ap (λ ds. cell_text c ∷ ds) (zipped ks cs less)

pub row_exact : (kinds : List ℕ) (shapes : List Shape) → length shapes ≡ length kinds → IsExact (row_at kinds shapes) row_text
row_exact kinds shapes many path d row r h =
    let o = ok_after (object_at (codes "cells" ∷ codes "entity" ∷ []) path d)
    (λ ms. key_of (cells_at shapes) path (codes "cells") ms
    >>= λ cells. key_of entity_at path (codes "entity") ms >>= λ entity. Ok (record { entity = entity; cells = zip kinds cells })) row h in
    let w = object_was (codes "cells" ∷ codes "entity" ∷ []) path d o.0 r o.1 in
    let p = ok_after (key_of (cells_at shapes) path (codes "cells") o.0)
    (λ cells. key_of entity_at path (codes "entity") o.0 >>= λ entity. Ok (record { entity = entity; cells = zip kinds cells })) row o.2 in
    let q = ok_after (key_of entity_at path (codes "entity") o.0) (λ entity. Ok (record { entity = entity; cells = zip kinds p.0 })) row p.2 in
    let k = key_was (cells_at shapes) path (codes "cells") o.0 p.0 w.read p.1 in
    let c = cells_was shapes (under path (codes "cells")) k.value p.0 k.read k.was in
    let made : Row = record { entity = q.0; cells = zip kinds p.0 } in
    let text : list_text cell_text p.0 ≡ list_text (λ (c : ℕ × Cell). cell_text c.1) made.cells = ap array_of (sym (zipped kinds p.0 (c.1 ∙ many))) in
    let cells : get_member (codes "cells") o.0 ≡ Some (list_text (λ (c : ℕ × Cell). cell_text c.1) made.cells) = k.found
    ∙ ap (λ x. Some x) (c.0 ∙ text) in
    let entity : get_member (codes "entity") o.0 ≡ Some (entity_json q.0) = key_exact entity_at entity_json entity_exact path (codes "entity") o.0
    q.0 w.read q.1 in
    object_is ((codes "cells", list_text (λ (c : ℕ × Cell). cell_text c.1) made.cells) ∷ (codes "entity", entity_json q.0) ∷ []) d o.0 w
    (tt, (refl, tt)) (cells, (entity, tt))
    ∙ ap row_text (ok_is made row q.2)

-- ---- the kinds of a table

-- each kind of the schema has a shape
shape_there : (schema : Kinds) (k : ℕ) → k < length schema → (s : Shape) × (shape_of schema k ≡ Some s)
shape_there [] k l = absurd (omega (arith, l))
shape_there (kind ∷ kinds) zero l = (kind.1, refl)
shape_there (kind ∷ kinds) (suc k) l = shape_there kinds k (omega (arith, l))

shapes_many : (schema : Kinds) (before : Option ℕ) (ks : List ℕ) → AreRising (length schema) before ks → length (shapes_of schema ks) ≡ length ks
shapes_many schema before [] h = refl
shapes_many schema before (k ∷ ks) h =
    ap (λ o. length (cons_option o (shapes_of schema ks))) (shape_there schema k h.0).1 ∙ ap suc (shapes_many schema (Some k) ks h.2)

-- kinds as cells, of which only the kinds count
abbrev blank : List ℕ → List (ℕ × Cell)
blank ks = each (λ k. (k, record { value = value.Tag; added = 0; changed = 0 })) ks

blank_keys : (ks : List ℕ) → keys (blank ks) ≡ ks
blank_keys [] = refl
blank_keys (k ∷ ks) = ap (λ xs. k ∷ xs) (blank_keys ks)

blank_low : (before : Option ℕ) (ks : List ℕ) → AreRising 64 before ks → AllByRecursion (λ (c : ℕ × Cell). (0 ≤ c.0) × (c.0 < 0 + 64)) (blank ks)
blank_low before [] h = tt
blank_low before (k ∷ ks) h = let l = h.0 in ((omega arith, omega (arith, l)), blank_low (Some k) ks h.2)

pub lower_is : (a b : ℕ) → nat_lt a b ≡ true → nat_cmp a b ≡ Less
lower_is a b h = ap (λ t. cond t Less (cond (a == b) Equal Greater)) h

above_is : (before : Option ℕ) (k : ℕ) → may_follow nat_lt before k ≡ true → IsAbove nat_cmp before k
above_is None k h = tt
above_is (Some b) k h = lower_is b k h

kinds_ascend : (bound : ℕ) (before : Option ℕ) (ks : List ℕ) → AreRising bound before ks → Ascend nat_cmp before ks
kinds_ascend bound before [] h = tt
kinds_ascend bound before (k ∷ ks) h = (above_is before k h.1, kinds_ascend bound (Some k) ks h.2)

-- kinds that rise are those of their set
pub kinds_kept : (ks : List ℕ) → AreRising 64 None ks → kinds_of (set_of ks) ≡ ks
kinds_kept ks h =
    let same : keys (blank ks) ≡ ks = blank_keys ks in
    ap (λ xs. kinds_of (set_of xs)) (sym same) ∙ ap kinds_of (set_of_cells (blank ks))
    ∙ kinds_of_cells (blank ks) (sorted_is nat_cmp nat_cmp_total (blank ks) (subst (Ascend nat_cmp None) (sym same) (kinds_ascend 64 None ks h)))
    (blank_low None ks h)
    ∙ same

pub table_exact : (schema : Kinds) → length schema ≤ 64 → IsExact (table_at schema) table_text
table_exact schema few path d t r h =
    let o = ok_after (object_at (codes "kinds" ∷ codes "rows" ∷ []) path d)
    (λ ms. key_of (rising_of (below (length schema)) nat_lt) path (codes "kinds") ms
    >>= λ kinds. key_of (list_of (row_at kinds (shapes_of schema kinds))) path (codes "rows") ms >>= λ rows. Ok (set_of kinds, rows)) t h in
    let w = object_was (codes "kinds" ∷ codes "rows" ∷ []) path d o.0 r o.1 in
    let p = ok_after (key_of (rising_of (below (length schema)) nat_lt) path (codes "kinds") o.0)
    (λ kinds. key_of (list_of (row_at kinds (shapes_of schema kinds))) path (codes "rows") o.0 >>= λ rows. Ok (set_of kinds, rows)) t o.2 in
    let q = ok_after (key_of (list_of (row_at p.0 (shapes_of schema p.0))) path (codes "rows") o.0) (λ rows. Ok (set_of p.0, rows)) t p.2 in
    let rise : AreRising (length schema) None p.0 = kinds_in (length schema) path (codes "kinds") o.0 p.0 p.1 in
    let kept : kinds_of (set_of p.0) ≡ p.0 = kinds_kept p.0 (widened (length schema) 64 None p.0 few rise) in
    let k = rising_key (below (length schema)) count_text (below_exact (length schema)) nat_lt path (codes "kinds") o.0 p.0 w.read p.1 in
    let kinds : get_member (codes "kinds") o.0 ≡ Some (list_text count_text (kinds_of (set_of p.0))) = k.0
    ∙ ap (λ ks. Some (list_text count_text ks)) (sym kept) in
    let rows : get_member (codes "rows") o.0 ≡ Some (list_text row_text q.0) =
    key_exact (list_of (row_at p.0 (shapes_of schema p.0))) (list_text row_text)
    (list_exact (row_at p.0 (shapes_of schema p.0)) row_text (row_exact p.0 (shapes_of schema p.0) (shapes_many schema None p.0 rise))) path
    (codes "rows") o.0 q.0 w.read q.1 in
    object_is ((codes "kinds", list_text count_text (kinds_of (set_of p.0))) ∷ (codes "rows", list_text row_text q.0) ∷ []) d o.0 w (tt, (refl, tt))
    (kinds, (rows, tt))
    ∙ ap table_text (ok_is (set_of p.0, q.0) t q.2)
