-- The rows of all entities, by kind set: what is read of them, and how they change.
use Rattle.std.specs.Prelude.{◌≡◌, ◌≢◌, ℕ, List, [], ◌∷◌, ◌++◌, Bool, Option, Some, None, is_some, slice_get, slice_set, option_map, map as each}
use Rattle.std.specs.Option.{option_or}
use Rattle.std.specs.List.{position_from}
use Rattle.std.specs.Ordering.{nat_cmp}
use Rattle.std.specs.Cmp.{nat_cmp_total}
use Rattle.scene_kinds.specs.declared.entity.Entity.{Entity}
use Rattle.scene_kinds.specs.declared.cell.Cell.{Cell}
use Rattle.scene_kinds.specs.declared.cells.Row.{Row}
use Rattle.scene_kinds.specs.Cells.{mask_of}
use Rattle.scene_kinds.specs.Entity.{is_same}
use Rattle.scene_kinds.specs.Lists.{whole, list_at, with_list}
use Rattle.scene_kinds.specs.Map as map
use Rattle.scene_kinds.specs.KindSet.{KindSet}
use Rattle.scene_table.specs.declared.home.Home.{Home}
use Rattle.scene_table.specs.Rows.{swap_out, put_back}

-- the rows of each kind set that has rows
abbrev pub Tables : Type 0
Tables = map.Map nat_cmp (Row × List Row)

-- the rows of a kind set, none where it has no table
abbrev pub rows_at : Tables → KindSet → List Row
rows_at tables mask = list_at tables mask

-- the tables with these rows at a kind set; no kind set stands with no rows
abbrev pub with_rows : Tables → KindSet → List Row → Tables
with_rows tables mask rows = with_list nat_cmp_total tables mask rows

-- the row at a home
abbrev pub row_at : Tables → Home → Option Row
row_at tables h = slice_get (rows_at tables h.mask) h.place

-- a new row goes last in the list of its kind set
abbrev pub with_row : Tables → Row → Tables
with_row tables row = with_rows tables (mask_of row.cells) (rows_at tables (mask_of row.cells) ++ row ∷ [])

-- a row leaves, and the last of its list takes its place
abbrev pub without_row : Tables → Home → Tables
without_row tables h = with_rows tables h.mask (swap_out (rows_at tables h.mask) h.place)

-- another row in place of the one at a home
abbrev pub with_row_at : Tables → Home → Row → Tables
with_row_at tables h row = with_rows tables h.mask (slice_set (rows_at tables h.mask) h.place row)

-- the place of an entity's row in a list
abbrev pub row_place : Entity → List Row → Option ℕ
row_place e rows = position_from (λ r. is_same r.entity e) 0 rows

-- the first home of an entity over kind sets with rows
abbrev pub home_in : Entity → List (KindSet × (Row × List Row)) → Option Home
home_in e [] = None
home_in e (t ∷ ts) = option_or (option_map (λ p. record { mask = t.0; place = p }) (row_place e (whole t.1))) (home_in e ts)

-- whether an entity has a row
abbrev pub lives : Tables → Entity → Bool
lives tables e = is_some (home_in e tables.entries)

-- the kind sets with rows, ascending
abbrev pub masks_of : Tables → List KindSet
masks_of tables = each (λ t. t.0) tables.entries

-- ---- facts of all rows

-- a fact of each row, with the kind set under which it stands
abbrev pub EachRow : (KindSet → Row → Type 0) → Tables → Type 0
EachRow P tables = (h : Home) (row : Row) → row_at tables h ≡ Some row → P h.mask row

-- no two rows are one entity's
abbrev pub StandsOnce : Tables → Type 0
StandsOnce tables = (a b : Home) (r s : Row) → row_at tables a ≡ Some r → row_at tables b ≡ Some s → r.entity ≡ s.entity → a ≡ b

-- no row is of an entity of an index
abbrev pub NoneOf : ℕ → Tables → Type 0
NoneOf index tables = (h : Home) (row : Row) → row_at tables h ≡ Some row → row.entity.index ≢ index

-- an entity's row stands at a home
abbrev pub StandsIn : Tables → Entity → Home → Type 0
StandsIn tables e home = option_map (λ row. row.entity) (row_at tables home) ≡ Some e

-- ---- rows that come back

-- an entity's row with these cells
abbrev pub row_for : Entity → List (ℕ × Cell) → Row
row_for e cells = record { entity = e; cells = cells }

-- a place in the table of the kind set of these cells
abbrev pub home_for : List (ℕ × Cell) → ℕ → Home
home_for cells place = record { mask = mask_of cells; place = place }

-- a row comes back to a place of its table, and the row that stood there goes last
abbrev pub with_row_back : Tables → ℕ → Row → Tables
with_row_back tables place row = with_rows tables (mask_of row.cells) (put_back (rows_at tables (mask_of row.cells)) place row)
