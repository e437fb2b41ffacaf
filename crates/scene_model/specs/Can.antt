-- Where each raw change may be made in a valid world, as tests that compute: what the world must have, and what the
-- change may bring.
use Rattle.std.specs.Prelude.{ℕ, Bool, true, false, not, ◌&&◌, ◌||◌, List, Option, Some, is_none, length, nat_eq, nat_le}
use Rattle.std.specs.Bool.{beq}
use Rattle.std.specs.List.{list_all}
use Rattle.std.specs.Option.{option_eq}
use Rattle.std.specs.Ordering.{nat_cmp}
use Rattle.std.specs.FinMap.Entries.{is_sorted}
use Rattle.scene_kinds.specs.declared.entity.Entity.{Entity}
use Rattle.scene_kinds.specs.declared.cell.Cell.{Cell}
use Rattle.scene_kinds.specs.Cells.{cell_of, mask_of}
use Rattle.scene_kinds.specs.Entity.{is_same}
use Rattle.scene_kinds.specs.Ranges.{is_in_range}
use Rattle.scene_kinds.specs.Schema.{fits_kind, is_good_name}
use Rattle.scene_alloc.specs.Ends.{last}
use Rattle.scene_alloc.specs.Slots.{SlotState, takes_new_slot, retires, take_of, is_fresh, can_unrelease}
use Rattle.scene_table.specs.Tables.{rows_at, row_for, home_for}
use Rattle.scene_links.specs.Forest.{Forest, children_of, parent_of, holds, ancestors, cut, link_in}
use Rattle.scene_resources.specs.Resources.{cell_of as resource_of}
use Rattle.scene_model.specs.World.{World, row_of, is_live}
use Rattle.scene_model.specs.Commands.{highest_tick}
use Rattle.scene_model.specs.Raw.{cells_of, shifted, taken_entity}
use Rattle.scene_model.specs.Same.{same_cell, same_row, same_home, same_link}
use Rattle.scene_model.specs.Timely.{if_some, tables_are_timely, resources_are_timely}
use Rattle.scene_model.specs.Valid.{is_timely}

-- ---- what the world has, and what may come

-- the entity is the next that a take of a slot gives
abbrev pub is_next : SlotState → Entity → Bool
is_next s e = option_eq is_same (taken_entity (take_of s)) (Some e)

-- the entity's row stands at this place of its table, and has just these cells
abbrev pub has_row : World → Entity → ℕ → List (ℕ × Cell) → Bool
has_row w e place cells =
    option_eq (λ a b. same_home a.0 b.0 && same_row a.1 b.1) (row_of w e) (Some (home_for cells place, row_for e cells))

-- the entity's row is the last of its table, and has just these cells
abbrev pub has_last_row : World → Entity → List (ℕ × Cell) → Bool
has_last_row w e cells = option_eq same_row (last (rows_at w.tables (mask_of cells))) (Some (row_for e cells))

-- cells have this one of a kind
abbrev pub has_cell : List (ℕ × Cell) → ℕ → Cell → Bool
has_cell cells kind cell = option_eq same_cell (cell_of cells kind) (Some cell)

-- the entity has this link, or none
abbrev pub has_link : Forest → Entity → Option (Entity × ℕ) → Bool
has_link f e link = option_eq same_link (link_in f e) link

-- the entity has no child
abbrev pub has_no_child : Forest → Entity → Bool
has_no_child f e = nat_eq (length (children_of f e)) 0

-- a cell that may stand in a row: its kind is in the schema and it fits it, and its ticks are in order
abbrev pub is_good_cell : World → ℕ → Cell → Bool
is_good_cell w kind cell = fits_kind w.schema cell.value kind && is_timely w.tick cell

-- cells that a row may have: their kinds ascend, and each is good
abbrev pub are_good_cells : World → List (ℕ × Cell) → Bool
are_good_cells w cells = is_sorted nat_cmp cells && list_all (λ c. is_good_cell w c.0 c.1) cells

-- a cell that a resource may have
abbrev pub is_good_resource : World → Cell → Bool
is_good_resource w cell = is_in_range cell.value && is_timely w.tick cell

-- a place in the list of a live parent, or behind it
abbrev pub is_place_in : World → Forest → Entity × ℕ → Bool
is_place_in w children link = is_live w link.0 && nat_le link.1 (length (children_of children link.0))

-- a link that a live entity may get: the parent is neither the entity nor below it, and its list has the place once the
-- entity left it
abbrev pub can_have_link : World → Entity → Entity × ℕ → Bool
can_have_link w e link =
    not (is_same e link.0) && not (holds e (ancestors w.children link.0)) && is_place_in w (cut w.children e) link

-- inward a good cell may come into a row that hasn't its kind; else it is the row's own, and may leave
abbrev pub can_move : World → List (ℕ × Cell) → ℕ → Cell → Bool → Bool
can_move w cells kind cell true = is_none (cell_of cells kind) && is_good_cell w kind cell
can_move w cells kind cell false = has_cell cells kind cell

-- ---- rows that come and go

-- the entity is the next one, from a fresh slot or not, and a row may have the cells
abbrev pub can_put : World → Entity → List (ℕ × Cell) → Bool → Bool
can_put w e cells fresh = is_next w.slots e && beq fresh (takes_new_slot w.slots) && are_good_cells w cells

-- the row stands last in its table, and the entity has no parent and no child; a fresh slot is the newest
abbrev pub can_drop : World → Entity → List (ℕ × Cell) → Bool → Bool
can_drop w e cells fresh =
    has_last_row w e cells && is_none (parent_of w.children e) && has_no_child w.children e && (not fresh || is_fresh w.slots e)

-- the row stands at this place with these cells, and the entity has this link, no child, and an index that retires or
-- not
abbrev pub can_cut : World → Entity → ℕ → List (ℕ × Cell) → Option (Entity × ℕ) → Bool → Bool
can_cut w e place cells link retired =
    has_row w e place cells && has_no_child w.children e && has_link w.children e link && beq retired (retires e)

-- the slot can come back as that of the dead entity, and its row, cells and link have their places
abbrev pub can_uncut : World → Entity → ℕ → List (ℕ × Cell) → Option (Entity × ℕ) → Bool → Bool
can_uncut w e place cells link retired =
    can_unrelease w.slots e retired && not (is_live w e) && are_good_cells w cells
    && nat_le place (length (rows_at w.tables (mask_of cells))) && if_some link (is_place_in w w.children)

-- ---- rows that move

-- the row stands at this place, and the cell may come into it or leave it
abbrev pub can_shift : World → Entity → ℕ → ℕ → Cell → Bool → Bool
can_shift w e place kind cell inward = has_row w e place (cells_of w e) && can_move w (cells_of w e) kind cell inward

-- the row stands last in its table, and its place in the other table is one that it may have
abbrev pub can_unshift : World → Entity → ℕ → ℕ → Cell → Bool → Bool
can_unshift w e place kind cell inward =
    has_last_row w e (cells_of w e) && can_move w (cells_of w e) kind cell (not inward)
    && nat_le place (length (rows_at w.tables (mask_of (shifted (cells_of w e) kind cell (not inward)))))

-- ---- what is written in its place

-- the entity has the cell from before, and the other one may stand in its place
abbrev pub can_set_cell : World → Entity → ℕ → (before after : Cell) → Bool
can_set_cell w e kind before after = has_cell (cells_of w e) kind before && is_good_cell w kind after

-- the entity lives and has the link from before, or none, and may have the other one
abbrev pub can_set_link : World → Entity → (before after : Option (Entity × ℕ)) → Bool
can_set_link w e before after = is_live w e && has_link w.children e before && if_some after (can_have_link w e)

-- the name has the cell from before, or none, and may have the other one
abbrev pub can_set_resource : World → List ℕ → (before after : Option Cell) → Bool
can_set_resource w name before after =
    is_good_name name && option_eq same_cell (resource_of w.resources name) before && if_some after (is_good_resource w)

-- no cell was changed later than the tick
abbrev pub can_set_tick : World → ℕ → Bool
can_set_tick w tick = nat_le tick highest_tick && tables_are_timely tick w.tables && resources_are_timely tick w.resources
