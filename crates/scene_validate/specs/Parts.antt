-- The parts of which a world is built, as lists, and the world that they make.
use Rattle.std.specs.Prelude.{◌≡◌, ℕ, ◌≤◌, Bool, true, false, List, [], ◌∷◌, All, map as each}
use Rattle.std.specs.List.{IsDistinct, list_all}
use Rattle.std.specs.declared.cmp.Ordering.{Ordering}
use Rattle.std.specs.Ordering.{eq_by_cmp}
use Rattle.std.specs.Cmp.{IsTotalOrder, nat_cmp_total}
use Rattle.scene_kinds.specs.declared.entity.Entity.{Entity}
use Rattle.scene_kinds.specs.declared.cell.Cell.{Cell}
use Rattle.scene_kinds.specs.declared.cells.Row.{Row}
use Rattle.scene_kinds.specs.Entity.{entity_cmp_total}
use Rattle.scene_kinds.specs.KindSet.{KindSet}
use Rattle.scene_kinds.specs.Lists.{whole, with_list}
use Rattle.scene_kinds.specs.Map as map
use Rattle.scene_kinds.specs.Ranges.{is_in_range}
use Rattle.scene_kinds.specs.Schema.{Kinds, IsSchema}
use Rattle.scene_table.specs.Tables.{Tables}
use Rattle.scene_alloc.specs.Slots.{SlotState, highest, slots_of}
use Rattle.scene_links.specs.Forest.{Forest}
use Rattle.scene_resources.specs.Resources.{NamedCells, name_cmp, name_cmp_total}
use Rattle.scene_model.specs.World.{World}

-- what a world is built from; unlike a world it may hold an empty table, a kind set or a name twice, or two parents of
-- one entity
pub record Parts : Type 0 where
  pub schema : Kinds
  pub limit : ℕ
  pub tick : ℕ
  pub generations : List ℕ
  pub free : List ℕ
  pub tables : List (KindSet × List Row)
  pub children : List (Entity × List Entity)
  pub resources : List (List ℕ × Cell)

-- the slots of parts
abbrev pub slots_in : Parts → SlotState
slots_in p = slots_of p.limit p.generations p.free

-- ---- the world of parts

-- the keys of a list
abbrev pub keys : {K X : Type 0} → List (K × X) → List K
keys es = each (λ e. e.0) es

-- a list has an element
abbrev pub has_some : {X : Type 0} → List X → Bool
has_some [] = false
has_some (x ∷ xs) = true

module _ {K X : Type 0} {R : K → K → Ordering} where
  -- a list of keys with their lists as a map: the first of a key that stands twice counts
  abbrev pub map_of : IsTotalOrder R → List (K × List X) → map.Map R (X × List X)
  map_of o [] = map.empty
  map_of o (e ∷ es) = with_list o (map_of o es) e.0 e.1

  -- the keys of a map with their lists, ascending
  abbrev pub lists_of : map.Map R (X × List X) → List (K × List X)
  lists_of m = each (λ e. (e.0, whole e.1)) m.entries

-- listed tables as the map from kind sets to rows
abbrev pub tables_of : List (KindSet × List Row) → Tables
tables_of ts = map_of nat_cmp_total ts

-- listed children as the map from parents to children
abbrev pub forest_of : List (Entity × List Entity) → Forest
forest_of ls = map_of entity_cmp_total ls

-- listed resources as a map: the first of a name that stands twice counts
abbrev pub resources_of : List (List ℕ × Cell) → NamedCells
resources_of [] = map.empty
resources_of (r ∷ rs) = map.insert name_cmp_total (resources_of rs) r.0 r.1

-- the world that parts say
abbrev pub world_of : Parts → World
world_of p = record {
  schema = p.schema;
  slots = slots_in p;
  tick = p.tick;
  tables = tables_of p.tables;
  children = forest_of p.children;
  resources = resources_of p.resources;
}

-- the parts of a world, its lists ascending
abbrev pub parts_of : World → Parts
parts_of w = record {
  schema = w.schema;
  limit = w.slots.limit;
  tick = w.tick;
  generations = w.slots.generations;
  free = w.slots.free;
  tables = lists_of w.tables;
  children = lists_of w.children;
  resources = w.resources.entries;
}

-- ---- the parts of a world in any order

-- a list has each key of a map once, with its list, and no other
pub record IsListing {K X : Type 0} {R : K → K → Ordering} (o : IsTotalOrder R) (es : List (K × List X)) (m : map.Map R (X × List X)) : Type 0 where
  pub once : IsDistinct (eq_by_cmp R) (keys es)
  pub some : list_all (λ e. has_some e.1) es ≡ true
  pub same : map_of o es ≡ m

-- parts are those of a world: each table, each list of children and each resource stands once
pub record ArePartsOf (p : Parts) (w : World) : Type 0 where
  pub schema : p.schema ≡ w.schema
  pub slots : slots_in p ≡ w.slots
  pub tick : p.tick ≡ w.tick
  pub tables : IsListing nat_cmp_total p.tables w.tables
  pub children : IsListing entity_cmp_total p.children w.children
  pub names : IsDistinct (eq_by_cmp name_cmp) (keys p.resources)
  pub resources : resources_of p.resources ≡ w.resources

-- ---- what the types of the program hold

-- numbers and texts are in the ranges of their types, and the schema is one
pub record AreInRange (p : Parts) : Type 0 where
  pub schema : IsSchema p.schema
  pub tick : p.tick ≤ 18446744073709551615
  pub generations : All (λ g. g ≤ highest) p.generations
  pub values : list_all (λ r. is_in_range r.1.value) p.resources ≡ true
