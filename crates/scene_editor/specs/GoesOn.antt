-- Which cells a later world has from an earlier one.
use Rattle.std.specs.Prelude.{◌≡◌, ◌≤◌, ◌<◌, ℕ, List, Some, Ok}
use Rattle.scene_kinds.specs.declared.entity.Entity.{Entity}
use Rattle.scene_kinds.specs.declared.cell.Cell.{Cell}
use Rattle.scene_kinds.specs.declared.cells.Row.{Row}
use Rattle.scene_kinds.specs.Answers.{Outcome}
use Rattle.scene_kinds.specs.Cells.{cell_of}
use Rattle.scene_kinds.specs.Map as map
use Rattle.scene_kinds.specs.KindSet.{KindSet}
use Rattle.scene_table.specs.Tables.{EachRow}
use Rattle.scene_model.specs.World.{World, component_of}
use Rattle.scene_model.specs.Valid.{IsValid}

-- an entity has a cell of a kind that was added at a tick
abbrev pub HasAdded : World → Entity → ℕ → ℕ → Type 0
HasAdded w e kind tick = (cell : Cell) × ((component_of w e kind ≡ Ok cell) × (cell.added ≡ tick))

-- a cell against an earlier world: unless it was changed since, that world holds an equal one, and unless it was added
-- since, one that was added at the same tick
pub record IsFrom (before : World) (e : Entity) (kind : ℕ) (cell : Cell) : Type 0 where
  pub kept : cell.changed ≤ before.tick → component_of before e kind ≡ Ok cell
  pub added : cell.added ≤ before.tick → HasAdded before e kind cell.added

-- a world that is no earlier than another, and whose cells were changed since or are the other's
pub record GoesOn (before after : World) : Type 0 where
  pub later : before.tick ≤ after.tick
  pub cells : (e : Entity) (kind : ℕ) (cell : Cell) → component_of after e kind ≡ Ok cell → IsFrom before e kind cell

-- ---- on the way of a frame

-- the world without resources
abbrev pub bare : World → World
bare w = record w { resources = map.empty }

-- A world whose slots, rows and links are sound, whatever its resources hold. Commands keep it so, given any values:
-- only resources take a value that isn't looked at
abbrev pub HasSoundRows : World → Type 0
HasSoundRows w = IsValid (bare w)

-- each of these cells of an entity, against an earlier world
abbrev pub AreFrom : World → Entity → List (ℕ × Cell) → Type 0
AreFrom before e cells = (kind : ℕ) (cell : Cell) → cell_of cells kind ≡ Some cell → IsFrom before e kind cell

-- the same of a row
abbrev pub IsRowFrom : World → KindSet → Row → Type 0
IsRowFrom before mask row = AreFrom before row.entity row.cells

-- a world on the way of a frame that began, before its tick was raised, with another
pub record IsOnTheWay (before w : World) : Type 0 where
  pub sound : HasSoundRows w
  pub later : before.tick < w.tick
  pub rows : EachRow (IsRowFrom before) w.tables

-- what is done to worlds keeps them on the way
abbrev pub StaysOnTheWay : (World → Outcome (List Entity) World) → Type 0
StaysOnTheWay does = (before w v : World) (es : List Entity) → IsOnTheWay before w → does w ≡ Ok (es, v) → IsOnTheWay before v
