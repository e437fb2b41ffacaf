-- Which spots are listed of the cells that were changed in a world's newest ticks.
use Rattle.std.specs.Prelude.{◌≡◌, ℕ, ◌+◌, Bool, true, false, not, nat_eq, ⊤, List, length, slice_get, Contains}
use Rattle.std.specs.Prelude.{Option, Some, None, IfSome, option_map}
use Rattle.scene_kinds.specs.declared.entity.Entity.{Entity}
use Rattle.scene_kinds.specs.declared.cell.Cell.{Cell}
use Rattle.scene_kinds.specs.declared.cells.Row.{Row}
use Rattle.scene_kinds.specs.Cells.{cell_of}
use Rattle.scene_resources.specs.Resources.{NamedCells, cell_of as resource_of}
use Rattle.scene_table.specs.Tables.{EachRow}
use Rattle.scene_model.specs.World.{World}
use Rattle.scene_model.specs.Raw.{cells_of}
use Rattle.scene_deltas.specs.declared.delta.Delta.{Delta}
use Rattle.scene_deltas.specs.declared.delta.Delta.TheVariants.{Spawned, Despawned, Shifted, CellSet, Linked, ResourceSet}
use Rattle.scene_deltas.specs.Deltas.{back_all}
use Rattle.scene_journal.specs.declared.spot.Spot.{Spot}
use Rattle.scene_journal.specs.declared.spot.Spot.TheVariants.{Component, Resource}

-- the spots of cells that were changed at the opening tick, of those changed one tick before it, and so on
pub record Newest : Type 0 where
  pub opening : ℕ
  pub by_age : List (List Spot)

-- the spot of a cell that was changed at this tick is listed, unless the tick is behind the last age
abbrev pub IsListed : Newest → ℕ → Spot → Type 0
IsListed n tick spot = (age : ℕ) (spots : List Spot) → tick + age ≡ n.opening → slice_get n.by_age age ≡ Some spots → Contains spots spot

-- those of an entity's cells are
abbrev pub AreListed : Newest → Entity → List (ℕ × Cell) → Type 0
AreListed n e cells = (kind : ℕ) (cell : Cell) → cell_of cells kind ≡ Some cell → IsListed n cell.changed (Component e kind)

-- those of the cells of rows are
abbrev pub AreRowsListed : Newest → List Row → Type 0
AreRowsListed n rows = (at : ℕ) (row : Row) → slice_get rows at ≡ Some row → AreListed n row.entity row.cells

-- that of a resource's cell is, where there is one
abbrev pub IsNameListed : Newest → NamedCells → List ℕ → Type 0
IsNameListed n r name = (cell : Cell) → resource_of r name ≡ Some cell → IsListed n cell.changed (Resource name)

-- those of all cells of a world are
pub record Covers (n : Newest) (w : World) : Type 0 where
  pub rows : EachRow (λ mask row. AreListed n row.entity row.cells) w.tables
  pub resources : (name : List ℕ) → IsNameListed n w.resources name

-- no world has a cell whose spot isn't
abbrev pub CoversAny : Newest → Type 0
CoversAny n = (w : World) → Covers n w

-- those of all cells of a world after these deltas are taken back there, where those of all its cells were
abbrev pub GoesBack : List Delta → (old new : Newest) → Type 0
GoesBack ds old new = (w : World) → Covers old w → Covers new (back_all ds w)

-- spots are kept of so many ticks, of which this one is the newest
abbrev pub HasAges : Newest → (opening ticks : ℕ) → Type 0
HasAges n opening ticks = (n.opening ≡ opening) × (length n.by_age ≡ ticks)

-- they are kept of the same ticks
abbrev pub KeepsAges : (old new : Newest) → Type 0
KeepsAges old new = HasAges new old.opening (length old.by_age)

-- what was listed still is, and spots are kept of the same ticks
pub record IsWider (old new : Newest) : Type 0 where
  pub spots : (tick : ℕ) (spot : Spot) → IsListed old tick spot → IsListed new tick spot
  pub ages : KeepsAges old new

-- those of the cells are that come where a delta is taken back
abbrev pub ListsBack : Newest → Delta → Type 0
ListsBack n (Spawned e cells fresh) = ⊤
ListsBack n (Despawned e place cells link retired) = AreListed n e cells
ListsBack n (Shifted e place kind cell inward) = inward ≡ false → IsListed n cell.changed (Component e kind)
ListsBack n (CellSet e kind before after) = IsListed n before.changed (Component e kind)
ListsBack n (Linked e before after) = ⊤
ListsBack n (ResourceSet name before after) = IfSome before (λ cell. IsListed n cell.changed (Resource name))

-- the tick at which the cell at a spot was changed, where there is one
abbrev pub changed_in : World → Spot → Option ℕ
changed_in w (Component e kind) = option_map (λ c. c.changed) (cell_of (cells_of w e) kind)
changed_in w (Resource name) = option_map (λ c. c.changed) (resource_of w.resources name)

-- a tick that may be missing, and isn't this one
abbrev pub is_other : ℕ → Option ℕ → Bool
is_other tick None = true
is_other tick (Some changed) = not (nat_eq changed tick)

-- the cell at a spot, if there is one, was changed at another tick
abbrev pub was_changed_otherwise : World → ℕ → Spot → Bool
was_changed_otherwise w tick spot = is_other tick (changed_in w spot)
