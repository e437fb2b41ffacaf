-- The ten rules together: parts that break none make a valid world, and those of a valid world break none.
use Rattle.std.proofs.Common.{◌≡◌, ℕ, Bool, true, false, cond, not, length, refl, ap, sym, subst, ◌∙◌, Some, None, Option, map}
use Rattle.std.specs.Prelude.{◌&&◌, ◌||◌, slice_get, slice_index}
use Rattle.std.specs.Ordering.{nat_cmp, eq_by_cmp}
use Rattle.std.specs.List.{list_all, IsDistinct}
use Rattle.scene_kinds.specs.declared.entity.Entity.{Entity}
use Rattle.scene_kinds.specs.declared.cells.Row.{Row}
use Rattle.scene_kinds.specs.Entity.{is_same}
use Rattle.scene_kinds.specs.Schema.{is_good_name}
use Rattle.scene_alloc.specs.Slots.{is_free}
use Rattle.scene_resources.specs.Resources.{name_cmp}
use Rattle.scene_model.specs.World.{World}
use Rattle.scene_model.specs.Valid.{IsValid, RowsAreSound, IsRowOf, is_timely, is_retired}
use Rattle.scene_validate.specs.Parts.{Parts, AreInRange, ArePartsOf, keys, has_some, slots_in, tables_of, forest_of, world_of}
use Rattle.scene_validate.specs.Rules.{flat, rows_in, are_distinct, is_current, is_accounted, is_row_of, is_list_of, walks_end, limit_holds, generations_begin, rows_are_current, entities_stand_once, free_is_sound, indices_are_accounted, tables_are_sound, links_are_sound, names_are_sound, ticks_are_sound, first_broken}
use Rattle.scene_validate.proofs.Tests.{and_is, and_of, not_is, not_of, distinct_is, distinct_of, below_is, below_of}
use Rattle.scene_validate.proofs.RowRules.{AreApart, test_row, row_test, each_row, row_each, has_row_lives, stands_once, once_stands, generation_is, generation_of, tables_fit, tables_some, fit_tables}
use Rattle.scene_validate.proofs.SlotRules.{slots_are, limit_of, begin_of, free_of}
use Rattle.scene_validate.proofs.LinkRules.{links_are, lists_some, links_live, children_differ, walks_of}
use Rattle.scene_validate.proofs.ResourceRules.{resources_are, names_good, resources_timely}

-- parts that break no rule
pub record Unbroken (p : Parts) : Type 0 where
  pub limit : limit_holds p ≡ true
  pub generations : generations_begin p ≡ true
  pub current : rows_are_current p ≡ true
  pub once : entities_stand_once p ≡ true
  pub free : free_is_sound p ≡ true
  pub accounted : indices_are_accounted p ≡ true
  pub tables : tables_are_sound p ≡ true
  pub links : links_are_sound p ≡ true
  pub names : names_are_sound p ≡ true
  pub ticks : ticks_are_sound p ≡ true

-- one rule after another
holds : (b : Bool) (n : ℕ) (o : Option ℕ) → cond (not b) (Some n) o ≡ None → (b ≡ true) × (o ≡ None)
holds true n o h = (refl, h)
holds false n o h = absurd (let k : Some n ≡ None = h in cc)

passed_by : (b : Bool) (n : ℕ) (o : Option ℕ) → b ≡ true → o ≡ None → cond (not b) (Some n) o ≡ None
passed_by b n o h k = ap (λ c. cond (not c) (Some n) o) h ∙ k

pub unbroken_is : (p : Parts) → first_broken p ≡ None → Unbroken p
unbroken_is p h =
    let a1 = holds (limit_holds p) 1 _ h in
    let a2 = holds (generations_begin p) 2 _ a1.1 in
    let a3 = holds (rows_are_current p) 3 _ a2.1 in
    let a4 = holds (entities_stand_once p) 4 _ a3.1 in
    let a5 = holds (free_is_sound p) 5 _ a4.1 in
    let a6 = holds (indices_are_accounted p) 6 _ a5.1 in
    let a7 = holds (tables_are_sound p) 7 _ a6.1 in
    let a8 = holds (links_are_sound p) 8 _ a7.1 in
    let a9 = holds (names_are_sound p) 9 _ a8.1 in
    let a10 = holds (ticks_are_sound p) 10 _ a9.1 in
    record { limit = a1.0; generations = a2.0; current = a3.0; once = a4.0; free = a5.0; accounted = a6.0; tables = a7.0; links = a8.0; names = a9.0; ticks = a10.0 }

pub unbroken_of : (p : Parts) → Unbroken p → first_broken p ≡ None
unbroken_of p u =
    passed_by (limit_holds p) 1 _ u.limit (passed_by (generations_begin p) 2 _ u.generations (passed_by (rows_are_current p) 3 _ u.current
    (passed_by (entities_stand_once p) 4 _ u.once (passed_by (free_is_sound p) 5 _ u.free (passed_by (indices_are_accounted p) 6 _ u.accounted
    (passed_by (tables_are_sound p) 7 _ u.tables (passed_by (links_are_sound p) 8 _ u.links (passed_by (names_are_sound p) 9 _ u.names
    (passed_by (ticks_are_sound p) 10 None u.ticks refl)))))))))

-- ---- the tests that are made of others

-- the kind sets, and the tables
tables_parts : (p : Parts) → tables_are_sound p ≡ true → (are_distinct (eq_by_cmp nat_cmp) (keys p.tables) ≡ true) × (list_all (λ t. has_some t.1 && list_all (is_row_of p.schema t.0) t.1) p.tables ≡ true)
tables_parts p h = and_is (are_distinct (eq_by_cmp nat_cmp) (keys p.tables)) (list_all (λ t. has_some t.1 && list_all (is_row_of p.schema t.0) t.1) p.tables) h

pub apart_is : (p : Parts) → tables_are_sound p ≡ true → AreApart p.tables
apart_is p h = distinct_is (eq_by_cmp nat_cmp) (keys p.tables) (tables_parts p h).0

-- the four tests of links
record LinkTests (p : Parts) : Type 0 where
  lists : list_all (is_list_of (rows_in p)) p.children ≡ true
  parents : are_distinct is_same (keys p.children) ≡ true
  children : are_distinct is_same (flat p.children) ≡ true
  walks : walks_end (forest_of p.children) ≡ true

link_tests : (p : Parts) → links_are_sound p ≡ true → LinkTests p
link_tests p h =
    let lists : Bool = list_all (is_list_of (rows_in p)) p.children in
    let parents : Bool = are_distinct is_same (keys p.children) in
    let children : Bool = are_distinct is_same (flat p.children) in
    let a = and_is (lists && parents && children) (walks_end (forest_of p.children)) h in
    let b = and_is (lists && parents) children a.0 in
    let c = and_is lists parents b.0 in record { lists = c.0; parents = c.1; children = b.1; walks = a.1 }

-- parents differ
pub parents_apart : (p : Parts) → links_are_sound p ≡ true → IsDistinct is_same (keys p.children)
parents_apart p h = distinct_is is_same (keys p.children) (link_tests p h).parents

of_link_tests : (p : Parts) → LinkTests p → links_are_sound p ≡ true
of_link_tests p t =
    let lists : Bool = list_all (is_list_of (rows_in p)) p.children in
    let parents : Bool = are_distinct is_same (keys p.children) in
    let children : Bool = are_distinct is_same (flat p.children) in
    and_of (lists && parents && children) (walks_end (forest_of p.children)) (and_of (lists && parents) children (and_of lists parents t.lists t.parents) t.children) t.walks

name_tests : (p : Parts) → names_are_sound p ≡ true → (list_all (λ r. is_good_name r.0) p.resources ≡ true) × (are_distinct (eq_by_cmp name_cmp) (keys p.resources) ≡ true)
name_tests p h = and_is (list_all (λ r. is_good_name r.0) p.resources) (are_distinct (eq_by_cmp name_cmp) (keys p.resources)) h

tick_tests : (p : Parts) → ticks_are_sound p ≡ true
    → (list_all (λ r. list_all (λ c. is_timely p.tick c.1) r.cells) (rows_in p) ≡ true) × (list_all (λ r. is_timely p.tick r.1) p.resources ≡ true)
tick_tests p h = and_is (list_all (λ r. list_all (λ c. is_timely p.tick c.1) r.cells) (rows_in p)) (list_all (λ r. is_timely p.tick r.1) p.resources) h

-- ---- parts that break no rule

rows_sound : (p : Parts) → Unbroken p → RowsAreSound p.schema (slots_in p) p.tick (tables_of p.tables)
rows_sound p u = record {
  each = λ h row is. record {
    current = generation_is (slice_get p.generations row.entity.index) row.entity.generation (test_row (λ r. is_current p.generations r.entity) p.tables u.current h row is);
    busy = not_is (is_free (slots_in p) row.entity.index) (test_row (λ r. not (is_free (slots_in p) r.entity.index)) p.tables (and_is _ _ u.free).1 h row is);
    fits = each_row (λ m r. IsRowOf p.schema m r) p.tables (tables_fit p.schema p.tables (tables_parts p u.tables).1) h row is;
    timely = test_row (λ r. list_all (λ c. is_timely p.tick c.1) r.cells) p.tables (tick_tests p u.ticks).0 h row is;
  };
  once = stands_once p.tables (distinct_is is_same (map (λ (r : Row). r.entity) (rows_in p)) u.once);
}

-- the entity that an index has now
abbrev now_at : Parts → ℕ → Entity
now_at p i = record { index = i; generation = slice_index p.generations i }

-- make a valid world
pub valid_is : (p : Parts) → AreInRange p → first_broken p ≡ None → IsValid (world_of p)
valid_is p range h =
    let u = unbroken_is p h in
    let links = link_tests p u.links in
    let apart = apart_is p u.tables in
    record {
      schema = range.schema;
      slots = slots_are p range u.limit u.generations u.free;
      tick = range.tick;
      rows = rows_sound p u;
      accounted = λ i l. ap (λ b. b || is_free (slots_in p) i || is_retired (slots_in p) i) (sym (has_row_lives p.tables apart (now_at p i))) ∙ below_is (is_accounted p) (length p.generations) i u.accounted l;
      links = links_are p.tables p.children apart links.lists (distinct_is is_same (flat p.children) links.children) links.walks;
      resources = resources_are p.tick p.resources (name_tests p u.names).0 range.values (tick_tests p u.ticks).1;
    }

-- and are its parts
pub parts_are : (p : Parts) → first_broken p ≡ None → ArePartsOf p (world_of p)
parts_are p h =
    let u = unbroken_is p h in
    let links = link_tests p u.links in
    record {
      schema = refl;
      slots = refl;
      tick = refl;
      tables = record { once = apart_is p u.tables; some = tables_some p.schema p.tables (tables_parts p u.tables).1; same = refl };
      children = record { once = distinct_is is_same (keys p.children) links.parents; some = lists_some (rows_in p) p.children links.lists; same = refl };
      names = distinct_is (eq_by_cmp name_cmp) (keys p.resources) (name_tests p u.names).1;
      resources = refl;
    }

-- ---- the parts of a valid world

-- the world of the parts of a world
pub world_is : (p : Parts) (w : World) → ArePartsOf p w → world_of p ≡ w
world_is p w a = λ i. record {
  schema = a.schema i;
  slots = a.slots i;
  tick = a.tick i;
  tables = a.tables.same i;
  children = a.children.same i;
  resources = a.resources i;
}

unbroken_parts : (p : Parts) (w : World) → ArePartsOf p w → IsValid (world_of p) → Unbroken p
unbroken_parts p w a v =
    let apart : AreApart p.tables = a.tables.once in
    let busy : list_all (λ r. not (is_free (slots_in p) r.entity.index)) (rows_in p) ≡ true = row_test (λ r. not (is_free (slots_in p) r.entity.index)) p.tables apart (λ h row is. not_of (is_free (slots_in p) row.entity.index) (v.rows.each h row is).busy) in
    record {
      limit = limit_of p v.slots;
      generations = begin_of p v.slots;
      current = row_test (λ r. is_current p.generations r.entity) p.tables apart (λ h row is. generation_of (slice_get p.generations row.entity.index) row.entity.generation (v.rows.each h row is).current);
      once = distinct_of is_same (map (λ (r : Row). r.entity) (rows_in p)) (once_stands p.tables apart v.rows.once);
      free = free_of p v.slots busy;
      accounted = below_of (is_accounted p) (length p.generations) (λ i l. ap (λ b. b || is_free (slots_in p) i || is_retired (slots_in p) i) (has_row_lives p.tables apart (now_at p i)) ∙ v.accounted i l);
      tables = and_of (are_distinct (eq_by_cmp nat_cmp) (keys p.tables)) (list_all (λ t. has_some t.1 && list_all (is_row_of p.schema t.0) t.1) p.tables) (distinct_of (eq_by_cmp nat_cmp) (keys p.tables) apart)
          (fit_tables p.schema p.tables a.tables.some (row_each (λ m r. IsRowOf p.schema m r) p.tables apart (λ h row is. (v.rows.each h row is).fits)));
      links = of_link_tests p (record {
        lists = links_live p.tables p.children apart a.children.once a.children.some v.links;
        parents = distinct_of is_same (keys p.children) a.children.once;
        children = distinct_of is_same (flat p.children) (children_differ p.children a.children.once v.links.forest);
        walks = walks_of (forest_of p.children) v.links.forest;
      });
      names = and_of (list_all (λ r. is_good_name r.0) p.resources) (are_distinct (eq_by_cmp name_cmp) (keys p.resources)) (names_good p.tick p.resources a.names v.resources) (distinct_of (eq_by_cmp name_cmp) (keys p.resources) a.names);
      ticks = and_of (list_all (λ r. list_all (λ c. is_timely p.tick c.1) r.cells) (rows_in p)) (list_all (λ r. is_timely p.tick r.1) p.resources)
          (row_test (λ r. list_all (λ c. is_timely p.tick c.1) r.cells) p.tables apart (λ h row is. (v.rows.each h row is).timely)) (resources_timely p.tick p.resources a.names v.resources);
    }

-- break no rule
pub none_broken : (p : Parts) (w : World) → IsValid w → ArePartsOf p w → first_broken p ≡ None
none_broken p w v a = unbroken_of p (unbroken_parts p w a (subst IsValid (sym (world_is p w a)) v))
