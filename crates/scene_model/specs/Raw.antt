-- The raw changes of a world, of which each is taken back by another: what a row, a cell, a link, a resource or the
-- tick is made to be. A change of an entity's row does nothing where the entity has none. `Can` says where each may be
-- made.
use Rattle.std.specs.Prelude.{ℕ, List, [], Bool, true, false, not, Option, Some, None, Ok, Err}
use Rattle.scene_kinds.specs.declared.entity.Entity.{Entity}
use Rattle.scene_kinds.specs.declared.cell.Cell.{Cell}
use Rattle.scene_kinds.specs.declared.cells.Row.{Row}
use Rattle.scene_kinds.specs.Answers.{Outcome}
use Rattle.scene_kinds.specs.Cells.{with_cell, without_cell}
use Rattle.scene_alloc.specs.Slots.{SlotState, take_of, untake_of, unrelease_of}
use Rattle.scene_table.specs.Table.{row_with_cell}
use Rattle.scene_links.specs.Forest.{with_link}
use Rattle.scene_resources.specs.Resources.{restore_of}
use Rattle.scene_table.specs.declared.home.Home.{Home}
use Rattle.scene_model.specs.World.{World, row_of}
use Rattle.scene_table.specs.Tables.{with_row, without_row, with_row_at, row_for, with_row_back}
use Rattle.scene_model.specs.Commands.{after_despawn, after_move}

-- ---- words

-- what is made of a world by the home and the row of a live entity
abbrev pub by_row : World → Option (Home × Row) → (Home → Row → World) → World
by_row w None change = w
by_row w (Some p) change = change p.0 p.1

-- the cells of an entity, none where it has no row
abbrev pub listed_cells : Option (Home × Row) → List (ℕ × Cell)
listed_cells None = []
listed_cells (Some p) = p.1.cells

-- the cells of an entity of a world
abbrev pub cells_of : World → Entity → List (ℕ × Cell)
cells_of w e = listed_cells (row_of w e)

-- inward: with this cell of a kind; else without the kind
abbrev pub shifted : List (ℕ × Cell) → ℕ → Cell → Bool → List (ℕ × Cell)
shifted cells kind cell true = with_cell cells kind cell
shifted cells kind cell false = without_cell cells kind

-- the entity that a take of a slot gives, where it isn't refused, and the slots after it
abbrev pub taken_entity : Outcome Entity SlotState → Option Entity
taken_entity (Ok p) = Some p.0
taken_entity (Err r) = None

-- the slots after a take that may be refused, which then leaves them
abbrev pub taken_slots : SlotState → Outcome Entity SlotState → SlotState
taken_slots s (Ok p) = p.1
taken_slots s (Err r) = s

-- ---- rows that come and go

-- the next slot is taken, and the row of its entity goes last in its table
abbrev pub put_row : World → Entity → List (ℕ × Cell) → World
put_row w e cells = record w { slots = taken_slots w.slots (take_of w.slots); tables = with_row w.tables (row_for e cells) }

-- the row leaves its table, and the slot comes back: a fresh one goes, another is free again
abbrev pub drop_last : World → Entity → Bool → World
drop_last w e fresh = by_row w (row_of w e) (λ h row. record w { slots = untake_of w.slots e fresh; tables = without_row w.tables h })

-- what a despawn does
abbrev pub cut_row : World → Entity → World
cut_row w e = by_row w (row_of w e) (λ h row. after_despawn w h e)

-- the slot, the row and the link of an entity come back
abbrev pub uncut_row : World → Entity → ℕ → List (ℕ × Cell) → Option (Entity × ℕ) → Bool → World
uncut_row w e place cells link retired = record w {
  slots = unrelease_of w.slots e retired;
  tables = with_row_back w.tables place (row_for e cells);
  children = with_link w.children e link;
}

-- ---- rows that move

-- inward the row moves to the kind set with the kind, else to the one without it, where it goes last
abbrev pub shift_row : World → Entity → ℕ → Cell → Bool → World
shift_row w e kind cell inward = by_row w (row_of w e) (λ h row. record w { tables = after_move w.tables h row (shifted row.cells kind cell inward) })

-- the row moves back to a place of the table from which it came
abbrev pub unshift_row : World → Entity → ℕ → ℕ → Cell → Bool → World
unshift_row w e place kind cell inward = by_row w (row_of w e) (λ h row. record w {
  tables = with_row_back (without_row w.tables h) place
      (row_for row.entity (shifted row.cells kind cell (not inward)));
})

-- ---- what is written in its place

-- the cell of a kind that the entity has is exchanged
abbrev pub set_cell : World → Entity → ℕ → Cell → World
set_cell w e kind cell = by_row w (row_of w e) (λ h row. record w { tables = with_row_at w.tables h (row_with_cell row kind cell) })

-- the entity gets this link, or none
abbrev pub set_link : World → Entity → Option (Entity × ℕ) → World
set_link w e link = record w { children = with_link w.children e link }

-- the name gets this cell, or none
abbrev pub set_resource : World → List ℕ → Option Cell → World
set_resource w name cell = record w { resources = restore_of w.resources name cell }

-- the tick is exchanged
abbrev pub set_tick : World → ℕ → World
set_tick w tick = record w { tick = tick }
