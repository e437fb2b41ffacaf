-- A world as one value, and what its readers answer.
use Rattle.std.specs.Prelude.{◌≡◌, ◌<◌, ℕ, List, [], Bool, Option, Some, None, Result, Ok, Err, not, nat_lt, length, option_map, option_and_then, if◌then◌else◌}
use Rattle.scene_kinds.specs.declared.entity.Entity.{Entity}
use Rattle.scene_kinds.specs.declared.cell.Cell.{Cell}
use Rattle.scene_kinds.specs.declared.cells.Row.{Row}
use Rattle.scene_kinds.specs.declared.refusal.Refusal.{Refusal}
use Rattle.scene_kinds.specs.declared.fault.Fault.TheVariants.{NoSuchEntity, NoSuchKind, NotPresent}
use Rattle.scene_kinds.specs.Answers.{refusal_of}
use Rattle.scene_kinds.specs.Cells.{cell_of}
use Rattle.scene_kinds.specs.Lists.{whole}
use Rattle.scene_kinds.specs.Map as map
use Rattle.scene_kinds.specs.Schema.{Kinds}
use Rattle.scene_kinds.specs.KindSet.{KindSet}
use Rattle.scene_table.specs.Tables.{Tables, rows_at, row_at, home_in, lives, masks_of}
use Rattle.scene_alloc.specs.Slots.{SlotState}
use Rattle.scene_links.specs.Forest.{Forest}
use Rattle.scene_resources.specs.Resources.{NamedCells}
use Rattle.scene_table.specs.declared.home.Home.{Home}

-- a world: its kinds, its slots, its tick, the rows of each kind set, each parent's children, and its resources
pub record World : Type 0 where
  pub schema : Kinds
  pub slots : SlotState
  pub tick : ℕ
  pub tables : Tables
  pub children : Forest
  pub resources : NamedCells

-- where the row of an entity stands; it is alive where there is such a home
abbrev pub home_of : World → Entity → Option Home
home_of w e = home_in e w.tables.entries

-- whether an entity is alive
abbrev pub is_live : World → Entity → Bool
is_live w e = lives w.tables e

-- the kind set of a live entity
abbrev pub mask_at : World → Entity → Option KindSet
mask_at w e = option_map (λ h. h.mask) (home_of w e)

-- the place of a live entity's row in the list of its kind set
abbrev pub place_at : World → Entity → Option ℕ
place_at w e = option_map (λ h. h.place) (home_of w e)

-- the rows of a kind set that has rows
abbrev pub rows_of : World → KindSet → Option (List Row)
rows_of w mask = option_map whole (map.get w.tables mask)

-- the kind sets that have rows, ascending
abbrev pub kind_sets : World → List KindSet
kind_sets w = masks_of w.tables

-- the home and the row of a live entity
abbrev pub row_of : World → Entity → Option (Home × Row)
row_of w e = option_and_then (λ h. option_map (λ row. (h, row)) (row_at w.tables h)) (home_of w e)

-- whether a kind isn't in the schema
abbrev pub is_unknown : Kinds → ℕ → Bool
is_unknown schema kind = not (nat_lt kind (length schema))

-- a cell of a live entity
abbrev pub present : Option Cell → Result Cell Refusal
present None = Err (refusal_of NotPresent)
present (Some cell) = Ok cell

-- the cell of a kind in a row, or why there is none
abbrev pub component_in : Kinds → ℕ → Option (Home × Row) → Result Cell Refusal
component_in schema kind None = Err (refusal_of NoSuchEntity)
component_in schema kind (Some p) = if is_unknown schema kind then Err (refusal_of NoSuchKind) else present (cell_of p.1.cells kind)

-- the cell of a kind that an entity has, or why it has none
abbrev pub component_of : World → Entity → ℕ → Result Cell Refusal
component_of w e kind = component_in w.schema kind (row_of w e)

-- a world without entities
abbrev pub new_world : Kinds → ℕ → World
new_world schema limit = record {
  schema = schema;
  slots = record { limit = limit; generations = []; free = [] };
  tick = 0;
  tables = map.empty;
  children = map.empty;
  resources = map.empty;
}

-- where the row of a live entity stands, with the row
pub record IsHomeOf (w : World) (e : Entity) (h : Home) : Type 0 where
  pub row : Row
  pub there : row_at w.tables h ≡ Some row
  pub same : row.entity ≡ e
  pub within : h.place < length (rows_at w.tables h.mask)
  pub found : row_of w e ≡ Some (h, row)
