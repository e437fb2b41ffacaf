-- The value of a valid world is plain, and nests eight levels deep.
use Rattle.std.proofs.Common.{◌≡◌, ℕ, ◌^◌, ◌<◌, ◌≤◌, Bool, true, false, cond, List, [], ◌∷◌, ◌++◌, length, refl, sym, subst, arith, nat_lt}
use Rattle.std.specs.Prelude.{◌&&◌, All, codes, filter}
use Rattle.std.specs.List.{list_all, AllByRecursion, range_with_len}
use Rattle.std.specs.Ordering.{nat_cmp, eq_by_cmp}
use Rattle.std.proofs.lemmas.Bool.{ltb-true}
use Rattle.std.proofs.lemmas.Option.{get_or_from_slice_get, slice_get_within}
use Rattle.serde_json.specs.Data.{string}
use Rattle.scene_kinds.specs.declared.entity.Entity.{Entity}
use Rattle.scene_kinds.specs.declared.cell.Cell.{Cell}
use Rattle.scene_kinds.specs.declared.cells.Row.{Row}
use Rattle.scene_kinds.specs.declared.shape.Shape.{Shape}
use Rattle.scene_kinds.specs.KindSet.{has_kind}
use Rattle.scene_kinds.specs.Ranges.{is_entity, is_in_range}
use Rattle.scene_kinds.specs.Schema.{Kinds, fits_kind, is_good_name}
use Rattle.scene_alloc.specs.Slots.{highest}
use Rattle.scene_resources.specs.Resources.{name_cmp}
use Rattle.scene_model.specs.World.{World}
use Rattle.scene_model.specs.Valid.{IsValid, IsRowOf, ResourcesAreSound, is_timely}
use Rattle.scene_validate.specs.Parts.{Parts, has_some, keys, parts_of}
use Rattle.scene_validate.specs.Rules.{rows_in, has_row, is_current, is_row_of, is_list_of, are_distinct}
use Rattle.scene_validate.proofs.Tests.{and_is, all_is, all_with, from_places}
use Rattle.scene_validate.proofs.Listed.{EachIn, flat_is}
use Rattle.scene_validate.proofs.RowRules.{tables_fit}
use Rattle.scene_validate.proofs.ResourceRules.{resources_in_range}
use Rattle.scene_validate.proofs.WorldRules.{unbroken_is, none_broken}
use Rattle.scene_validate.proofs.OwnParts.{own_parts}
use Rattle.scene_json_forms.specs.Text.{list_text, object_of, count_text, entity_json, shape_text, cell_text, resource_cell_text}
use Rattle.scene_json_forms.proofs.FitKinds.{fits_is}
use Rattle.scene_file.specs.Text.{row_text, kinds_of, kind_text, table_text, children_text, resource_text, first_text, last_text, parts_text}
use Rattle.scene_file.proofs.PlainValues.{IsFine, IsHeld, deeper, array_fine, list_fine, object_fine, count_fine, string_fine, entity_fine, name_is_utf8, shape_fine, timely_held, cell_fine, resource_cell_fine}
use Rattle.scene_file.proofs.WorldBack.{current_entity, row_fact, lists_pass}

-- the member lists of parts are fine
pub record MembersAreFine (p : Parts) : Type 0 where
  pub children : IsFine 7 (list_text children_text p.children)
  pub free : IsFine 7 (list_text count_text p.free)
  pub generations : IsFine 7 (list_text count_text p.generations)
  pub kinds : IsFine 7 (list_text kind_text p.schema)
  pub limit : IsFine 7 (count_text p.limit)
  pub resources : IsFine 7 (list_text resource_text p.resources)
  pub tables : IsFine 7 (list_text table_text p.tables)
  pub tick : IsFine 7 (count_text p.tick)

all_from : {X : Type 0} (P : X → Type 0) (xs : List X) → All P xs → AllByRecursion P xs
all_from P xs h = from_places P xs (λ i x e. subst P (get_or_from_slice_get xs i x x e) (h i x (slice_get_within xs i x e)))

-- ---- rows and tables

held_cells : (schema : Kinds) (tick : ℕ) (cells : List (ℕ × Cell)) → tick < 2 ^ 64 → list_all (λ c. fits_kind schema c.1.value c.0) cells ≡ true
    → list_all (λ c. is_timely tick c.1) cells ≡ true → AllByRecursion (λ c. IsHeld c.1) cells
held_cells schema tick [] l h t = tt
held_cells schema tick (c ∷ cs) l h t =
    let p = and_is (fits_kind schema c.1.value c.0) (list_all (λ c. fits_kind schema c.1.value c.0) cs) h in
    let q = and_is (is_timely tick c.1) (list_all (λ c. is_timely tick c.1) cs) t in
    (timely_held tick c.1 l (fits_is schema c.1.value c.0 p.0).range q.0, held_cells schema tick cs l p.1 q.1)

row_fine : (r : Row) → is_entity r.entity ≡ true → AllByRecursion (λ c. IsHeld c.1) r.cells → IsFine 4 (row_text r)
row_fine r e h =
    object_fine 3 ((codes "cells", list_text (λ c. cell_text c.1) r.cells) ∷ (codes "entity", entity_json r.entity) ∷ []) refl refl (
      list_fine 2 (λ c. cell_text c.1) r.cells (all_with (λ c. IsHeld c.1) (λ c. IsFine 2 (cell_text c.1)) (λ c k. cell_fine 0 c.1 k) r.cells h),
      (entity_fine 3 r.entity e, tt),
    )

filtered : (P : ℕ → Type 0) (keep : ℕ → Bool) (xs : List ℕ) → AllByRecursion P xs → AllByRecursion P (filter keep xs)
filtered P keep [] h = tt
filtered P keep (x ∷ xs) h = elim (keep x) as (λ b. AllByRecursion P (cond b (x ∷ filter keep xs) (filter keep xs))) [
  | true ↦ (h.0, filtered P keep xs h.1)
  | false ↦ filtered P keep xs h.1
]

counts_fine : (ns : List ℕ) → AllByRecursion (λ n. nat_lt n 64 ≡ true) ns → IsFine 1 (list_text count_text ns)
counts_fine ns h =
    list_fine 0 count_text ns (all_with (λ n. nat_lt n 64 ≡ true) (λ n. IsFine 0 (count_text n))
    (λ n k. let l = ltb-true n 64 k in count_fine 0 n (omega (arith, l))) ns h)

table_with : (kinds : List ℕ) (rows : List Row) → AllByRecursion (λ n. nat_lt n 64 ≡ true) kinds → AllByRecursion (λ r. IsFine 4 (row_text r)) rows
    → IsFine 6 (object_of ((codes "kinds", list_text count_text kinds) ∷ (codes "rows", list_text row_text rows) ∷ []))
table_with kinds rows k h =
    object_fine 5 ((codes "kinds", list_text count_text kinds) ∷ (codes "rows", list_text row_text rows) ∷ []) refl refl
    (deeper 1 5 (list_text count_text kinds) (omega arith) (counts_fine kinds k), (list_fine 4 row_text rows h, tt))

table_fine : (mask : ℕ) (rows : List Row) → AllByRecursion (λ r. IsFine 4 (row_text r)) rows → IsFine 6 (table_text (mask, rows))
table_fine mask rows h =
    table_with (kinds_of mask) rows
    (filtered (λ n. nat_lt n 64 ≡ true) (has_kind mask) (range_with_len 0 64) (all_is (λ n. nat_lt n 64) (range_with_len 0 64) refl)) h

rows_fine : (schema : Kinds) (tick mask : ℕ) (rows : List Row) → tick < 2 ^ 64 → AllByRecursion (λ r. is_entity r.entity ≡ true) rows
    → AllByRecursion (IsRowOf schema mask) rows → AllByRecursion (λ r. list_all (λ c. is_timely tick c.1) r.cells ≡ true) rows
    → AllByRecursion (λ r. IsFine 4 (row_text r)) rows
rows_fine schema tick mask [] l e f t = tt
rows_fine schema tick mask (r ∷ rs) l e f t = (
  row_fine r e.0 (held_cells schema tick r.cells l f.0.shapes t.0),
  rows_fine schema tick mask rs l e.1 f.1 t.1,
)

tables_fine : (schema : Kinds) (tick : ℕ) (ts : List (ℕ × List Row)) → tick < 2 ^ 64 → EachIn (λ m r. is_entity r.entity ≡ true) ts
    → EachIn (IsRowOf schema) ts → EachIn (λ m r. list_all (λ c. is_timely tick c.1) r.cells ≡ true) ts
    → AllByRecursion (λ t. IsFine 6 (table_text t)) ts
tables_fine schema tick [] l e f t = tt
tables_fine schema tick (x ∷ xs) l e f t = (
  table_fine x.0 x.1 (rows_fine schema tick x.0 x.1 l e.0 f.0 t.0),
  tables_fine schema tick xs l e.1 f.1 t.1,
)

-- ---- the other lists

kind_fine : (kind : List ℕ × Shape) → is_good_name kind.0 ≡ true → IsFine 1 (kind_text kind)
kind_fine kind h = array_fine 0 (string kind.0 ∷ shape_text kind.1 ∷ []) (string_fine 0 kind.0 (name_is_utf8 kind.0 h), (shape_fine 0 kind.1, tt))

list_of_fine : (rows : List Row) → AllByRecursion (λ r. is_entity r.entity ≡ true) rows → (l : Entity × List Entity) → is_list_of rows l ≡ true
    → IsFine 2 (children_text l)
list_of_fine rows h l k =
    let a = and_is (has_row rows l.0 && list_all (has_row rows) l.1) (has_some l.1) k in
    let b = and_is (has_row rows l.0) (list_all (has_row rows) l.1) a.0 in
    object_fine 1 ((codes "list", list_text entity_json l.1) ∷ (codes "parent", entity_json l.0) ∷ []) refl refl (
      list_fine 0 entity_json l.1
          (all_with (λ c. has_row rows c ≡ true) (λ c. IsFine 0 (entity_json c)) (λ c g. entity_fine 0 c (row_fact is_entity rows c h g)) l.1
          (all_is (has_row rows) l.1 b.1)),
      (entity_fine 1 l.0 (row_fact is_entity rows l.0 h b.0), tt),
    )

resource_fine : (r : List ℕ × Cell) → is_good_name r.0 ≡ true → IsHeld r.1 → IsFine 3 (resource_text r)
resource_fine r n h =
    object_fine 2 ((codes "cell", resource_cell_text r.1) ∷ (codes "name", string r.0) ∷ []) refl refl
    (resource_cell_fine 0 r.1 h, (string_fine 2 r.0 (name_is_utf8 r.0 n), tt))

resources_fine : (tick : ℕ) (rs : List (List ℕ × Cell)) → tick < 2 ^ 64 → list_all (λ r. is_good_name r.0) rs ≡ true
    → list_all (λ r. is_in_range r.1.value) rs ≡ true → list_all (λ r. is_timely tick r.1) rs ≡ true
    → AllByRecursion (λ r. IsFine 3 (resource_text r)) rs
resources_fine tick [] l n h t = tt
resources_fine tick (r ∷ rs) l n h t =
    let p = and_is (is_good_name r.0) (list_all (λ r. is_good_name r.0) rs) n in
    let q = and_is (is_in_range r.1.value) (list_all (λ r. is_in_range r.1.value) rs) h in
    let s = and_is (is_timely tick r.1) (list_all (λ r. is_timely tick r.1) rs) t in
    (resource_fine r p.0 (timely_held tick r.1 l q.0 s.0), resources_fine tick rs l p.1 q.1 s.1)

-- ---- the whole

pub world_members_fine : (w : World) → IsValid w → MembersAreFine (parts_of w)
world_members_fine w v =
    let p : Parts = parts_of w in
    let own = own_parts w in
    let u = unbroken_is p (none_broken p w v own) in
    let few = v.slots.few in
    let limit = v.slots.low_limit in
    let tick = v.tick in
    let low : w.tick < 2 ^ 64 = omega (arith, tick) in
    let current : AllByRecursion (λ r. is_current p.generations r.entity ≡ true) (rows_in p) = all_is (λ r. is_current p.generations r.entity)
    (rows_in p) u.current in
    let entities : AllByRecursion (λ r. is_entity r.entity ≡ true) (rows_in p) = all_with (λ r. is_current p.generations r.entity ≡ true)
    (λ r. is_entity r.entity ≡ true) (λ r h. current_entity w.slots v.slots r.entity h) (rows_in p) current in
    let ticks = and_is (list_all (λ r. list_all (λ c. is_timely p.tick c.1) r.cells) (rows_in p)) (list_all (λ r. is_timely p.tick r.1) p.resources)
    u.ticks in
    let sets = and_is (are_distinct (eq_by_cmp nat_cmp) (keys p.tables))
    (list_all (λ t. has_some t.1 && list_all (is_row_of p.schema t.0) t.1) p.tables) u.tables in
    let names = and_is (list_all (λ r. is_good_name r.0) p.resources) (are_distinct (eq_by_cmp name_cmp) (keys p.resources)) u.names in
    record {
      children = deeper 3 7 (list_text children_text p.children) (omega arith) (list_fine 2 children_text p.children
          (all_with (λ l. is_list_of (rows_in p) l ≡ true) (λ l. IsFine 2 (children_text l)) (λ l h. list_of_fine (rows_in p) entities l h) p.children
          (all_is (is_list_of (rows_in p)) p.children (lists_pass p u))));
      free = deeper 1 7 (list_text count_text p.free) (omega arith) (list_fine 0 count_text p.free
          (all_with (λ i. i < length p.generations) (λ i. IsFine 0 (count_text i)) (λ i h. count_fine 0 i (omega (arith, h, few, limit))) p.free
          (all_from (λ i. i < length p.generations) p.free v.slots.in_range)));
      generations = deeper 1 7 (list_text count_text p.generations) (omega arith) (list_fine 0 count_text p.generations
          (all_with (λ g. g ≤ highest) (λ g. IsFine 0 (count_text g)) (λ g h. count_fine 0 g (omega (arith, h))) p.generations
          (all_from (λ g. g ≤ highest) p.generations v.slots.low)));
      kinds = deeper 2 7 (list_text kind_text p.schema) (omega arith) (list_fine 1 kind_text p.schema
          (all_with (λ k. is_good_name k.0 ≡ true) (λ k. IsFine 1 (kind_text k)) (λ k h. kind_fine k h) p.schema
          (all_from (λ k. is_good_name k.0 ≡ true) p.schema v.schema.good)));
      limit = count_fine 7 p.limit (omega (arith, limit));
      resources = deeper 4 7 (list_text resource_text p.resources) (omega arith) (list_fine 3 resource_text p.resources
          (resources_fine w.tick p.resources low names.0
          (resources_in_range w.tick p.resources own.names (subst (ResourcesAreSound w.tick) (sym own.resources) v.resources)) ticks.1));
      tables = list_fine 6 table_text p.tables (tables_fine p.schema w.tick p.tables low
          (all_with (λ t. AllByRecursion (λ r. is_current p.generations r.entity ≡ true) t.1) (λ t. AllByRecursion (λ r. is_entity r.entity ≡ true) t.1)
          (λ t h. all_with (λ r. is_current p.generations r.entity ≡ true) (λ r. is_entity r.entity ≡ true)
          (λ r k. current_entity w.slots v.slots r.entity k) t.1 h) p.tables (flat_is (λ r. is_current p.generations r.entity) p.tables u.current))
          (tables_fit p.schema p.tables sets.1)
          (flat_is (λ r. list_all (λ c. is_timely w.tick c.1) r.cells) p.tables ticks.0));
      tick = count_fine 7 p.tick low;
    }

pub parts_fine : (p : Parts) → MembersAreFine p → IsFine 8 (parts_text p)
parts_fine p h = object_fine 7 (first_text p ++ last_text 1 p) refl refl
    (h.children, (h.free, (h.generations, (h.kinds, (h.limit, (h.resources, (count_fine 7 1 (omega arith), (h.tables, (h.tick, tt)))))))))
