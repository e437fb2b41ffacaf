-- A valid world's parts are read again as they were written.
use Rattle.std.proofs.Common.{◌≡◌, ℕ, ◌^◌, ◌<◌, ◌≤◌, Bool, true, T, List, [], ◌∷◌, length, refl, ap, sym, subst, ◌∙◌, arith, Some, None, Ok, nat_lt}
use Rattle.std.specs.Prelude.{map as each, ◌&&◌, nat_le, slice_get, All}
use Rattle.std.specs.List.{list_all, AllByRecursion}
use Rattle.std.specs.Ordering.{nat_cmp, eq_by_cmp, is_lt, ordering_then}
use Rattle.std.specs.declared.cmp.Ordering.TheVariants.{Less, Equal, Greater}
use Rattle.std.specs.FinMap.{nat_cmp-IsAntisymmetric}
use Rattle.std.specs.FinMap.Entries.{is_sorted, below_all}
use Rattle.std.proofs.lemmas.Bool.{lt-ltb}
use Rattle.std.proofs.lemmas.Option.{get_or_from_slice_get, slice_get_within, same_Some}
use Rattle.scene_kinds.specs.declared.entity.Entity.{Entity}
use Rattle.scene_kinds.specs.declared.cell.Cell.{Cell}
use Rattle.scene_kinds.specs.declared.cells.Row.{Row}
use Rattle.scene_kinds.specs.Entity.{entity_cmp, is_same}
use Rattle.scene_kinds.specs.Lists.{whole}
use Rattle.scene_kinds.specs.Ranges.{is_entity, is_in_range}
use Rattle.scene_kinds.specs.Schema.{Kinds, is_good_name}
use Rattle.scene_kinds.proofs.Choices.{test_parts, less}
use Rattle.scene_alloc.specs.Slots.{SlotState, IsSlots, most_slots, highest}
use Rattle.scene_links.proofs.Held.{same_is}
use Rattle.scene_resources.specs.Resources.{name_cmp}
use Rattle.scene_model.specs.World.{World}
use Rattle.scene_model.specs.Valid.{IsValid, IsRowOf, ResourcesAreSound}
use Rattle.scene_validate.specs.Parts.{Parts, has_some, keys, parts_of, forest_of}
use Rattle.scene_validate.specs.Rules.{flat, rows_in, has_row, is_current, is_row_of, is_list_of, are_distinct, walks_end, first_broken}
use Rattle.scene_validate.proofs.Tests.{and_is, and_of, all_is, all_with, any_is, at_place, from_places}
use Rattle.scene_validate.proofs.Listed.{EachIn, flat_is}
use Rattle.scene_validate.proofs.RowRules.{generation_is, tables_fit, tables_some, passed}
use Rattle.scene_validate.proofs.ResourceRules.{resources_in_range}
use Rattle.scene_validate.proofs.WorldRules.{Unbroken, unbroken_is, none_broken, world_is}
use Rattle.scene_validate.proofs.OwnParts.{own_parts}
use Rattle.scene_json_forms.specs.Reading.{◌>>=◌}
use Rattle.scene_file.specs.Scene.{if_unbroken, world_in}
use Rattle.scene_json_forms.specs.Text.{count_text}
use Rattle.scene_file.specs.Text.{table_text, children_text, resource_text, world_text}
use Rattle.scene_json_forms.specs.Walk.{u32_at}
use Rattle.scene_file.specs.Walk.{children_at, resource_at, table_at, parent_follows, name_follows, table_follows}
use Rattle.scene_json_forms.proofs.ListsBack.{ReadsBack, Follow, below_back}
use Rattle.scene_json_forms.proofs.FitKinds.{less_is}
use Rattle.scene_file.proofs.SceneBack.{AreReadable, table_back, list_of_back, resource_back, parts_back}

all_from : (P : ℕ → Type 0) (xs : List ℕ) → All P xs → AllByRecursion P xs
all_from P xs h = from_places P xs (λ i x e. subst P (get_or_from_slice_get xs i x x e) (h i x (slice_get_within xs i x e)))

all_both : {X : Type 0} (P Q : X → Type 0) (xs : List X) → AllByRecursion P xs → AllByRecursion Q xs → AllByRecursion (λ x. P x × Q x) xs
all_both P Q [] h k = tt
all_both P Q (x ∷ xs) h k = ((h.0, k.0), all_both P Q xs h.1 k.1)

unmapped : {X Y : Type 0} (P : Y → Type 0) (f : X → Y) (xs : List X) → AllByRecursion P (each f xs) → AllByRecursion (λ x. P (f x)) xs
unmapped P f [] h = tt
unmapped P f (x ∷ xs) h = (h.0, unmapped P f xs h.1)

-- ---- entities

-- an entity that has its slot's generation is one that its type can hold
pub slot_entity : (s : SlotState) → IsSlots s → (e : Entity) → slice_get s.generations e.index ≡ Some e.generation → is_entity e ≡ true
slot_entity s sound e at =
    let within = slice_get_within s.generations e.index e.generation at in
    let low : e.generation ≤ highest = subst (λ g. g ≤ highest) (get_or_from_slice_get s.generations e.index e.generation e.generation at)
    (sound.low e.index e.generation within) in
    let few = sound.few in
    let limit = sound.low_limit in
    and_of (nat_lt e.index 4294967296) (nat_lt e.generation 4294967296) (lt-ltb e.index 4294967296 (omega (arith, within, few, limit)))
    (lt-ltb e.generation 4294967296 (omega (arith, low)))

pub current_entity : (s : SlotState) → IsSlots s → (e : Entity) → is_current s.generations e ≡ true → is_entity e ≡ true
current_entity s sound e h = slot_entity s sound e (generation_is (slice_get s.generations e.index) e.generation h)

-- what holds of the entities of rows holds of each that has a row
pub row_fact : (test : Entity → Bool) (rows : List Row) (e : Entity) → AllByRecursion (λ r. test r.entity ≡ true) rows → has_row rows e ≡ true
    → test e ≡ true
row_fact test rows e h there =
    let r = any_is (λ (r : Row). is_same e r.entity) rows there in
    ap test (same_is e r.1.0.entity r.1.1.1) ∙ at_place (λ (x : Row). test x.entity ≡ true) rows r.0 r.1.0 h r.1.1.0

-- of two current entities the lower one has the lower index
lower : (generations : List ℕ) (a b : Entity) → is_current generations a ≡ true → is_current generations b ≡ true → entity_cmp a b ≡ Less
    → nat_lt a.index b.index ≡ true
lower generations a b h k = elim (nat_cmp a.index b.index)
    as (λ o. nat_cmp a.index b.index ≡ o → ordering_then o (nat_cmp a.generation b.generation) ≡ Less → nat_lt a.index b.index ≡ true) [
      | Less ↦ λ e l. lt-ltb a.index b.index (less_is a.index b.index e)
      | Equal ↦ λ e l.
          let same : a.index ≡ b.index = nat_cmp-IsAntisymmetric a.index b.index e in
          let x = generation_is (slice_get generations a.index) a.generation h in
          let y = generation_is (slice_get generations b.index) b.generation k in
          let g : a.generation ≡ b.generation = same_Some a.generation b.generation (sym x ∙ ap (slice_get generations) same ∙ y) in
          let m = less_is a.generation b.generation l in absurd (omega (arith, g, m))
      | Greater ↦ λ e l. absurd (let g : Greater ≡ Less = l in cc)
    ] refl

-- ---- lists that rise

parents_after : (generations : List ℕ) (k : Entity) (l : List Entity) (es : List (Entity × (Entity × List Entity))) → is_current generations k ≡ true
    → AllByRecursion (λ e. is_current generations e.0 ≡ true) es
    → T (below_all entity_cmp k es) → T (is_sorted entity_cmp es)
    → Follow parent_follows (Some (k, l)) (each (λ (e : Entity × (Entity × List Entity)). (e.0, whole e.1)) es)
parents_after generations k l [] c h b s = tt
parents_after generations k l (e ∷ es) c h b s =
    let p = test_parts (is_lt (entity_cmp k e.0)) (below_all entity_cmp k es) b in
    let q = test_parts (below_all entity_cmp e.0 es) (is_sorted entity_cmp es) s in
    (lower generations k e.0 c h.0 (less (entity_cmp k e.0) p.0), parents_after generations e.0 (whole e.1) es h.0 h.1 q.0 q.1)

parents_rise : (generations : List ℕ) (es : List (Entity × (Entity × List Entity))) → AllByRecursion (λ e. is_current generations e.0 ≡ true) es
    → T (is_sorted entity_cmp es) → Follow parent_follows None (each (λ (e : Entity × (Entity × List Entity)). (e.0, whole e.1)) es)
parents_rise generations [] h s = tt
parents_rise generations (e ∷ es) h s = let q = test_parts (below_all entity_cmp e.0 es) (is_sorted entity_cmp es) s in
    (refl, parents_after generations e.0 (whole e.1) es h.0 h.1 q.0 q.1)

names_after : (k : List ℕ × Cell) (es : List (List ℕ × Cell)) → T (below_all name_cmp k.0 es) → T (is_sorted name_cmp es)
    → Follow name_follows (Some k) es
names_after k [] b s = tt
names_after k (e ∷ es) b s =
    let p = test_parts (is_lt (name_cmp k.0 e.0)) (below_all name_cmp k.0 es) b in
    let q = test_parts (below_all name_cmp e.0 es) (is_sorted name_cmp es) s in (passed (is_lt (name_cmp k.0 e.0)) p.0, names_after e es q.0 q.1)

names_rise : (es : List (List ℕ × Cell)) → T (is_sorted name_cmp es) → Follow name_follows None es
names_rise [] s = tt
names_rise (e ∷ es) s = let q = test_parts (below_all name_cmp e.0 es) (is_sorted name_cmp es) s in (refl, names_after e es q.0 q.1)

sets_after : (k : ℕ) (rows : List Row) (es : List (ℕ × (Row × List Row))) → T (below_all nat_cmp k es) → T (is_sorted nat_cmp es)
    → Follow table_follows (Some (k, rows)) (each (λ (e : ℕ × (Row × List Row)). (e.0, whole e.1)) es)
sets_after k rows [] b s = tt
sets_after k rows (e ∷ es) b s =
    let p = test_parts (is_lt (nat_cmp k e.0)) (below_all nat_cmp k es) b in
    let q = test_parts (below_all nat_cmp e.0 es) (is_sorted nat_cmp es) s in
    (lt-ltb k e.0 (less_is k e.0 (less (nat_cmp k e.0) p.0)), sets_after e.0 (whole e.1) es q.0 q.1)

sets_rise : (es : List (ℕ × (Row × List Row))) → T (is_sorted nat_cmp es)
    → Follow table_follows None (each (λ (e : ℕ × (Row × List Row)). (e.0, whole e.1)) es)
sets_rise [] s = tt
sets_rise (e ∷ es) s = let q = test_parts (below_all nat_cmp e.0 es) (is_sorted nat_cmp es) s in (refl, sets_after e.0 (whole e.1) es q.0 q.1)

-- ---- the lists

tables_read : (schema : Kinds) → length schema ≤ 64 → (ts : List (ℕ × List Row)) → list_all (λ t. has_some t.1) ts ≡ true
    → EachIn (λ m r. is_entity r.entity ≡ true) ts → EachIn (λ m r. IsRowOf schema m r) ts
    → AllByRecursion (ReadsBack (table_at schema) table_text) ts
tables_read schema few [] s h k = tt
tables_read schema few (t ∷ ts) s h k =
    let p = and_is (has_some t.1) (list_all (λ t. has_some t.1) ts) s in (
      table_back schema few t.0 t.1 p.0 (all_both (λ r. is_entity r.entity ≡ true) (IsRowOf schema t.0) t.1 h.0 k.0),
      tables_read schema few ts p.1
          h.1 k.1,
    )

list_read : (rows : List Row) → AllByRecursion (λ r. is_entity r.entity ≡ true) rows → (l : Entity × List Entity) → is_list_of rows l ≡ true
    → ReadsBack children_at children_text l
list_read rows h l k =
    let a = and_is (has_row rows l.0 && list_all (has_row rows) l.1) (has_some l.1) k in
    let b = and_is (has_row rows l.0) (list_all (has_row rows) l.1) a.0 in
    list_of_back l (row_fact is_entity rows l.0 h b.0)
    (all_with (λ c. has_row rows c ≡ true) (λ c. is_entity c ≡ true) (λ c g. row_fact is_entity rows c h g) l.1 (all_is (has_row rows) l.1 b.1))

parent_current : (generations : List ℕ) (rows : List Row) → AllByRecursion (λ r. is_current generations r.entity ≡ true) rows
    → (l : Entity × List Entity) → is_list_of rows l ≡ true → is_current generations l.0 ≡ true
parent_current generations rows h l k =
    let a = and_is (has_row rows l.0 && list_all (has_row rows) l.1) (has_some l.1) k in
    let b = and_is (has_row rows l.0) (list_all (has_row rows) l.1) a.0 in row_fact (is_current generations) rows l.0 h b.0

resources_read : (rs : List (List ℕ × Cell)) → list_all (λ r. is_good_name r.0) rs ≡ true → list_all (λ r. is_in_range r.1.value) rs ≡ true
    → AllByRecursion (ReadsBack resource_at resource_text) rs
resources_read [] h k = tt
resources_read (r ∷ rs) h k =
    let p = and_is (is_good_name r.0) (list_all (λ r. is_good_name r.0) rs) h in
    let q = and_is (is_in_range r.1.value) (list_all (λ r. is_in_range r.1.value) rs) k in (resource_back r p.0 q.0, resources_read rs p.1 q.1)

pub lists_pass : (p : Parts) → Unbroken p → list_all (is_list_of (rows_in p)) p.children ≡ true
lists_pass p u =
    let lists : Bool = list_all (is_list_of (rows_in p)) p.children in
    let parents : Bool = are_distinct is_same (keys p.children) in
    let children : Bool = are_distinct is_same (flat p.children) in
    let a = and_is (lists && parents && children) (walks_end (forest_of p.children)) u.links in
    let b = and_is (lists && parents) children a.0 in (and_is lists parents b.0).0

-- the parts of a valid world are read again
pub readable : (w : World) → IsValid w → AreReadable (parts_of w)
readable w v =
    let p : Parts = parts_of w in
    let own = own_parts w in
    let u = unbroken_is p (none_broken p w v own) in
    let lists = lists_pass p u in
    let few = v.slots.few in
    let limit = v.slots.low_limit in
    let current : AllByRecursion (λ r. is_current p.generations r.entity ≡ true) (rows_in p) = all_is (λ r. is_current p.generations r.entity)
    (rows_in p) u.current in
    let entities : AllByRecursion (λ r. is_entity r.entity ≡ true) (rows_in p) = all_with (λ r. is_current p.generations r.entity ≡ true)
    (λ r. is_entity r.entity ≡ true) (λ r h. current_entity w.slots v.slots r.entity h) (rows_in p) current in
    let tests = and_is (are_distinct (eq_by_cmp nat_cmp) (keys p.tables))
    (list_all (λ t. has_some t.1 && list_all (is_row_of p.schema t.0) t.1) p.tables) u.tables in
    record {
      children = all_with (λ l. is_list_of (rows_in p) l ≡ true) (ReadsBack children_at children_text) (λ l h. list_read (rows_in p) entities l h)
          p.children (all_is (is_list_of (rows_in p)) p.children lists);
      parents = parents_rise p.generations w.children.entries
          (unmapped (λ l. is_current p.generations l.0 ≡ true) (λ (e : Entity × (Entity × List Entity)). (e.0, whole e.1)) w.children.entries
          (all_with (λ l. is_list_of (rows_in p) l ≡ true) (λ l. is_current p.generations l.0 ≡ true)
          (λ l h. parent_current p.generations (rows_in p) current l h) p.children (all_is (is_list_of (rows_in p)) p.children lists)))
          w.children.sorted;
      free = all_with (λ i. i < length p.generations) (ReadsBack u32_at count_text) (λ i h. below_back (2 ^ 32) i (omega (arith, h, few, limit)))
          p.free (all_from (λ i. i < length p.generations) p.free v.slots.in_range);
      generations = all_with (λ g. g ≤ highest) (ReadsBack u32_at count_text) (λ g h. below_back (2 ^ 32) g (omega (arith, h))) p.generations
          (all_from (λ g. g ≤ highest) p.generations v.slots.low);
      schema = v.schema;
      limit = (and_is (nat_le 1 p.limit && nat_le p.limit most_slots) (nat_le (length p.generations) p.limit) u.limit).0;
      resources = resources_read p.resources
          (and_is (list_all (λ r. is_good_name r.0) p.resources) (are_distinct (eq_by_cmp name_cmp) (keys p.resources)) u.names).0
          (resources_in_range w.tick p.resources own.names (subst (ResourcesAreSound w.tick) (sym own.resources) v.resources));
      names = names_rise w.resources.entries w.resources.sorted;
      tables = tables_read p.schema v.schema.few p.tables (tables_some p.schema p.tables tests.1)
          (all_with (λ t. AllByRecursion (λ r. is_current p.generations r.entity ≡ true) t.1)
          (λ t. AllByRecursion (λ r. is_entity r.entity ≡ true) t.1)
          (λ t h. all_with (λ r. is_current p.generations r.entity ≡ true) (λ r. is_entity r.entity ≡ true)
          (λ r k. current_entity w.slots v.slots r.entity k) t.1 h) p.tables
          (flat_is (λ r. is_current p.generations r.entity) p.tables u.current))
          (tables_fit p.schema p.tables tests.1);
      sets = sets_rise w.tables.entries w.tables.sorted;
    }

-- and so is the world
pub world_back : (w : World) → IsValid w → world_in (world_text w) ≡ Ok w
world_back w v =
    ap (λ r. r >>= λ p. if_unbroken (first_broken p) p) (parts_back (parts_of w) (readable w v))
    ∙ ap (λ o. if_unbroken o (parts_of w)) (none_broken (parts_of w) w v (own_parts w)) ∙ ap (λ x. Ok x) (world_is (parts_of w) w (own_parts w))

-- equal texts come from equal worlds
pub same_world : (v w : World) → IsValid v → IsValid w → world_text v ≡ world_text w → v ≡ w
same_world v w x y e = let k : Ok v ≡ Ok w = sym (world_back v x) ∙ ap world_in e ∙ world_back w y in cc
