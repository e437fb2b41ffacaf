-- The ten rules of a valid world (docs/MODEL.md, "A valid world"), as tests of parts, and the first one that parts
-- break.
use Rattle.std.specs.Prelude.{ℕ, suc, zero, List, [], ◌∷◌, Bool, true, false, not, ◌&&◌, ◌||◌, Option, Some, None, is_some, nat_eq, nat_lt, nat_le, length, slice_get, slice_index, map as each, if◌then◌else◌}
use Rattle.std.specs.List.{list_all, list_any, flat_map, range_with_len}
use Rattle.std.specs.Ordering.{nat_cmp, eq_by_cmp}
use Rattle.std.specs.FinMap.Entries.{is_sorted}
use Rattle.scene_kinds.specs.declared.entity.Entity.{Entity}
use Rattle.scene_kinds.specs.declared.cells.Row.{Row}
use Rattle.scene_kinds.specs.Cells.{mask_of}
use Rattle.scene_kinds.specs.Entity.{is_same}
use Rattle.scene_kinds.specs.Schema.{Kinds, fits_kind, is_good_name}
use Rattle.scene_kinds.specs.KindSet.{KindSet}
use Rattle.scene_alloc.specs.Slots.{is_free, most_slots}
use Rattle.scene_links.specs.Forest.{Forest, parent_of, parents}
use Rattle.scene_resources.specs.Resources.{name_cmp}
use Rattle.scene_model.specs.Valid.{is_retired, is_timely}
use Rattle.scene_validate.specs.Parts.{Parts, keys, has_some, slots_in, forest_of}

-- no element of a list is told the same as one after it
abbrev pub are_distinct : {X : Type 0} → (X → X → Bool) → List X → Bool
are_distinct same [] = true
are_distinct same (x ∷ xs) = list_all (λ y. not (same x y)) xs && are_distinct same xs

-- the lists of keys, one after another
abbrev pub flat : {K X : Type 0} → List (K × List X) → List X
flat es = flat_map (λ e. e.1) es

-- the rows of all tables, one after another
abbrev pub rows_in : Parts → List Row
rows_in p = flat p.tables

-- one of rows is an entity's, so that it lives
abbrev pub has_row : List Row → Entity → Bool
has_row rows e = list_any (λ r. is_same e r.entity) rows

-- 1. The slot limit is 1 to 1,048,576, and there are at most that many slots.
abbrev pub limit_holds : Parts → Bool
limit_holds p = nat_le 1 p.limit && nat_le p.limit most_slots && nat_le (length p.generations) p.limit

-- 2. Each generation is at least 1.
abbrev pub generations_begin : Parts → Bool
generations_begin p = list_all (nat_le 1) p.generations

-- a slot that is there has a generation
abbrev pub has_generation : Option ℕ → ℕ → Bool
has_generation None g = false
has_generation (Some h) g = nat_eq h g

-- an entity has its slot's generation
abbrev pub is_current : List ℕ → Entity → Bool
is_current generations e = has_generation (slice_get generations e.index) e.generation

-- 3. Each row's entity has an index below the number of slots and its slot's generation.
abbrev pub rows_are_current : Parts → Bool
rows_are_current p = list_all (λ r. is_current p.generations r.entity) (rows_in p)

-- 4. No entity stands in two rows.
abbrev pub entities_stand_once : Parts → Bool
entities_stand_once p = are_distinct is_same (each (λ r. r.entity) (rows_in p))

-- 5. Each free index is below the number of slots, stands once in the free list, and isn't that of a row.
abbrev pub free_is_sound : Parts → Bool
free_is_sound p =
    list_all (λ i. nat_lt i (length p.generations)) p.free && are_distinct nat_eq p.free
    && list_all (λ r. not (is_free (slots_in p) r.entity.index)) (rows_in p)

-- the entity that an index has now lives, or the index is free or retired
abbrev pub is_accounted : Parts → ℕ → Bool
is_accounted p i =
    has_row (rows_in p) (record { index = i; generation = slice_index p.generations i })
    || is_free (slots_in p) i || is_retired (slots_in p) i

-- 6. Each index is live, free or retired.
abbrev pub indices_are_accounted : Parts → Bool
indices_are_accounted p = list_all (is_accounted p) (range_with_len 0 (length p.generations))

-- a row has just the kinds of a set, ascending, and each cell fits its kind
abbrev pub is_row_of : Kinds → KindSet → Row → Bool
is_row_of schema mask r =
    is_sorted nat_cmp r.cells && nat_eq (mask_of r.cells) mask && list_all (λ c. fits_kind schema c.1.value c.0) r.cells

-- 7. Kind sets are distinct, each table has a row, and each row has just its table's kinds, all in the schema.
abbrev pub tables_are_sound : Parts → Bool
tables_are_sound p =
    are_distinct (eq_by_cmp nat_cmp) (keys p.tables)
    && list_all (λ t. has_some t.1 && list_all (is_row_of p.schema t.0) t.1) p.tables

-- what holds of the parent, or true where there is none
abbrev pub and_up : Option Entity → (Entity → Bool) → Bool
and_up None ends = true
and_up (Some p) ends = ends p

-- the walk up from an entity comes to one without a parent within so many steps
abbrev pub ends_in : ℕ → Forest → Entity → Bool
ends_in zero f e = not (is_some (parent_of f e))
ends_in (suc n) f e = and_up (parent_of f e) (ends_in n f)

-- the parent and the children of a list live, and it isn't empty
abbrev pub is_list_of : List Row → Entity × List Entity → Bool
is_list_of rows l = has_row rows l.0 && list_all (has_row rows) l.1 && has_some l.1

-- no entity is its own ancestor: each walk up from a parent ends, within as many steps as there are parents
abbrev pub walks_end : Forest → Bool
walks_end f = list_all (ends_in (length f.entries) f) (parents f)

-- 8. Parents and children are live, parents are distinct, no list is empty, each child stands once over all lists, and
-- no entity is its own ancestor.
abbrev pub links_are_sound : Parts → Bool
links_are_sound p =
    list_all (is_list_of (rows_in p)) p.children && are_distinct is_same (keys p.children)
    && are_distinct is_same (flat p.children) && walks_end (forest_of p.children)

-- 9. Resource names are good and distinct.
abbrev pub names_are_sound : Parts → Bool
names_are_sound p = list_all (λ r. is_good_name r.0) p.resources && are_distinct (eq_by_cmp name_cmp) (keys p.resources)

-- 10. Each cell of a row or a resource was added no later than changed, and changed no later than now.
abbrev pub ticks_are_sound : Parts → Bool
ticks_are_sound p =
    list_all (λ r. list_all (λ c. is_timely p.tick c.1) r.cells) (rows_in p) && list_all (λ r. is_timely p.tick r.1) p.resources

-- the number of the first broken rule from the seventh on
abbrev pub broken_from_7 : Parts → Option ℕ
broken_from_7 p =
    if not (tables_are_sound p) then Some 7
    else if not (links_are_sound p) then Some 8
    else if not (names_are_sound p) then Some 9
    else if not (ticks_are_sound p) then Some 10
    else None

-- the first broken rule from the fourth on
abbrev pub broken_from_4 : Parts → Option ℕ
broken_from_4 p =
    if not (entities_stand_once p) then Some 4
    else if not (free_is_sound p) then Some 5
    else if not (indices_are_accounted p) then Some 6
    else broken_from_7 p

-- the first broken rule of all
abbrev pub first_broken : Parts → Option ℕ
first_broken p =
    if not (limit_holds p) then Some 1
    else if not (generations_begin p) then Some 2
    else if not (rows_are_current p) then Some 3
    else broken_from_4 p
