-- Each accepted command is a raw change that may be made, with what it brings and what it met. So is raising the tick.
use Rattle.std.specs.Prelude.{◌≡◌, ℕ, ◌+◌, List, true, false, length, Option, Some, None, Ok}
use Rattle.scene_kinds.specs.declared.entity.Entity.{Entity}
use Rattle.scene_kinds.specs.declared.cell.Cell.{Cell}
use Rattle.scene_kinds.specs.declared.value.Value.{Value}
use Rattle.scene_kinds.specs.Cells.{new_cell, put_over, cell_of}
use Rattle.scene_kinds.specs.Ranges.{is_in_range}
use Rattle.scene_alloc.specs.Slots.{takes_new_slot, retires}
use Rattle.scene_links.specs.Forest.{Forest, children_of, cut, link_in}
use Rattle.scene_resources.specs.Resources.{cell_of as resource_of}
use Rattle.scene_model.specs.World.{World}
use Rattle.scene_model.specs.Commands.{new_cells, raise_tick, spawn, despawn, insert, remove, set_parent, remove_parent, put_resource, remove_resource}
use Rattle.scene_model.specs.Valid.{IsValid}
use Rattle.scene_model.specs.Raw.{cells_of, put_row, cut_row, shift_row, set_cell, set_link, set_resource, set_tick}
use Rattle.scene_model.specs.Can.{can_put, can_cut, can_shift, can_set_cell, can_set_link, can_set_resource, can_set_tick}

-- a spawn puts the row of the next entity, with new cells
abbrev pub SpawnPuts : Type 0
SpawnPuts = (w v : World) (given : List (ℕ × Value)) (e : Entity) → IsValid w → spawn w given ≡ Ok (e, v)
    → (can_put w e (new_cells w.tick given) (takes_new_slot w.slots) ≡ true) × (v ≡ put_row w e (new_cells w.tick given))

-- a despawn cuts the row, from the place where it stands
abbrev pub DespawnCuts : Type 0
DespawnCuts = (w v : World) (e : Entity) → IsValid w → despawn w e ≡ Ok (tt, v)
    → (place : ℕ) × ((can_cut w e place (cells_of w e) (link_in w.children e) (retires e) ≡ true) × (v ≡ cut_row w e))

-- an insert of a kind that the entity hasn't shifts the row; of one that it has, it sets the cell
abbrev pub Inserts : World → World → Entity → ℕ → Value → Option Cell → Type 0
Inserts w v e kind value None = (place : ℕ) × ((can_shift w e place kind (new_cell w.tick value) true ≡ true)
    × (v ≡ shift_row w e kind (new_cell w.tick value) true))
Inserts w v e kind value (Some c) = (can_set_cell w e kind c (put_over (Some c) value w.tick) ≡ true)
    × (v ≡ set_cell w e kind (put_over (Some c) value w.tick))

-- an insert shifts the row or sets the cell, by what the entity has
abbrev pub InsertShiftsOrSets : Type 0
InsertShiftsOrSets = (w v : World) (e : Entity) (kind : ℕ) (value : Value) → IsValid w → insert w e kind value ≡ Ok (tt, v)
    → Inserts w v e kind value (cell_of (cells_of w e) kind)

-- a remove shifts the row, from the place where it stands, without the cell that the entity has
abbrev pub RemoveShifts : Type 0
RemoveShifts = (w v : World) (e : Entity) (kind : ℕ) → IsValid w → remove w e kind ≡ Ok (tt, v)
    → (place : ℕ) × ((cell : Cell) × ((can_shift w e place kind cell false ≡ true) × (v ≡ shift_row w e kind cell false)))

-- the last place in a parent's list without the child
abbrev pub last_link : Forest → Entity → Entity → Entity × ℕ
last_link f child parent = (parent, length (children_of (cut f child) parent))

-- a set of a parent sets the link to the last place below it
abbrev pub SetParentSetsLink : Type 0
SetParentSetsLink = (w v : World) (child parent : Entity) → IsValid w → set_parent w child parent ≡ Ok (tt, v)
    → (can_set_link w child (link_in w.children child) (Some (last_link w.children child parent)) ≡ true)
    × (v ≡ set_link w child (Some (last_link w.children child parent)))

-- a removal of a parent sets that there is no link
abbrev pub RemoveParentSetsLink : Type 0
RemoveParentSetsLink = (w v : World) (child : Entity) → IsValid w → remove_parent w child ≡ Ok (tt, v)
    → (can_set_link w child (link_in w.children child) None ≡ true) × (v ≡ set_link w child None)

-- a put sets the resource, with the added tick of the one that was there
abbrev pub PutSetsResource : Type 0
PutSetsResource = (w v : World) (name : List ℕ) (value : Value) → IsValid w → is_in_range value ≡ true → put_resource w name value ≡ Ok (tt, v)
    → (let cell = put_over (resource_of w.resources name) value w.tick in
    (can_set_resource w name (resource_of w.resources name) (Some cell) ≡ true) × (v ≡ set_resource w name (Some cell)))

-- a removal of a resource sets that there is none
abbrev pub RemoveSetsResource : Type 0
RemoveSetsResource = (w v : World) (name : List ℕ) → IsValid w → remove_resource w name ≡ Ok (tt, v)
    → (can_set_resource w name (resource_of w.resources name) None ≡ true) × (v ≡ set_resource w name None)

-- raising the tick sets the next one
abbrev pub RaiseSetsTick : Type 0
RaiseSetsTick = (w v : World) → IsValid w → raise_tick w ≡ Ok (tt, v) → (can_set_tick w (w.tick + 1) ≡ true) × (v ≡ set_tick w (w.tick + 1))
