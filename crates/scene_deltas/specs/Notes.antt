-- The deltas that a command makes, where it is accepted, each field as it stands at that point.
use Rattle.std.specs.Prelude.{◌≡◌, ℕ, List, [], ◌∷◌, ◌++◌, true, false, Option, Some, None, if◌then◌else◌}
use Rattle.scene_kinds.specs.declared.entity.Entity.{Entity}
use Rattle.scene_kinds.specs.declared.cell.Cell.{Cell}
use Rattle.scene_kinds.specs.declared.cells.Row.{Row}
use Rattle.scene_kinds.specs.declared.value.Value.{Value}
use Rattle.scene_kinds.specs.Cells.{new_cell, put_over, cell_of}
use Rattle.scene_alloc.specs.Slots.{takes_new_slot, retires, take_of}
use Rattle.scene_links.specs.Forest.{link_in, post}
use Rattle.scene_resources.specs.Resources.{cell_of as resource_of}
use Rattle.scene_table.specs.declared.home.Home.{Home}
use Rattle.scene_model.specs.World.{World, is_live, row_of}
use Rattle.scene_model.specs.Commands.{new_cells}
use Rattle.scene_model.specs.CommandRaw.{last_link}
use Rattle.scene_model.specs.Perform.{Spawn, Despawn, DespawnRecursive, DespawnRecursiveIfAlive, Insert, Remove, SetParent, RemoveParent, PutResource, RemoveResource}
use Rattle.scene_model.specs.Raw.{taken_entity, cut_row}
use Rattle.scene_model.specs.RawLists.{CutNote, CanCutNoted, MayAll, after_all}
use Rattle.scene_world.specs.Stage.{Note}
use Rattle.scene_deltas.specs.declared.delta.Delta.{Delta}
use Rattle.scene_deltas.specs.declared.delta.Delta.TheVariants.{Spawned, Despawned, Shifted, CellSet, Linked, ResourceSet}

-- a delta, where there is one, as a list
abbrev pub listed_delta : Option Delta → List Delta
listed_delta None = []
listed_delta (Some d) = d ∷ []

-- what is noted of an entity's row, by its place and its cells: nothing where the entity has none
abbrev pub of_row : Option (Home × Row) → (ℕ → List (ℕ × Cell) → List Delta) → List Delta
of_row None note = []
of_row (Some p) note = note p.0.place p.1.cells

-- what is noted of a cell that is there
abbrev pub of_cell : Option Cell → (Cell → Delta) → List Delta
of_cell None note = []
of_cell (Some c) note = note c ∷ []

-- a spawn, by the entity that the slots give
abbrev pub spawned : World → List (ℕ × Cell) → Option Entity → List Delta
spawned w cells None = []
spawned w cells (Some e) = Spawned e cells (takes_new_slot w.slots) ∷ []

-- a despawn, with all that has to come back
abbrev pub despawned : World → Entity → List Delta
despawned w e = of_row (row_of w e) (λ place cells. Despawned e place cells (link_in w.children e) (retires e) ∷ [])

-- despawns one after another
abbrev pub despawned_each : List Entity → World → List Delta
despawned_each [] w = []
despawned_each (e ∷ es) w = despawned w e ++ despawned_each es (cut_row w e)

-- the world after these rows are cut, one after another
abbrev pub cut_each : List Entity → World → World
cut_each es w = after_all (λ e u. cut_row u e) es w

-- each of these rows may be cut at its turn, and is noted as it stands then
abbrev pub CanCutEach : List Entity → World → Type 0
CanCutEach es w = MayAll (λ e u. (n : CutNote) × ((n.entity ≡ e) × CanCutNoted n u)) (λ e u. cut_row u e) es w

-- an insert: the row shifts where it hasn't the kind, else its cell is set
abbrev pub inserted : ℕ → Entity → ℕ → Value → ℕ → Option Cell → Delta
inserted tick e kind value place None = Shifted e place kind (new_cell tick value) true
inserted tick e kind value place (Some c) = CellSet e kind c (put_over (Some c) value tick)

-- the deltas of each command; a recursive despawn makes one for each entity, children first
abbrev pub deltas_of : Note Delta
deltas_of w (Spawn cells) = spawned w (new_cells w.tick cells) (taken_entity (take_of w.slots))
deltas_of w (Despawn e) = despawned w e
deltas_of w (DespawnRecursive e) = despawned_each (post w.children e) w
deltas_of w (DespawnRecursiveIfAlive e) = if is_live w e then despawned_each (post w.children e) w else []
deltas_of w (Insert e kind value) = of_row (row_of w e) (λ place cells. inserted w.tick e kind value place (cell_of cells kind) ∷ [])
deltas_of w (Remove e kind) = of_row (row_of w e) (λ place cells. of_cell (cell_of cells kind) (λ c. Shifted e place kind c false))
deltas_of w (SetParent child parent) = Linked child (link_in w.children child) (Some (last_link w.children child parent)) ∷ []
deltas_of w (RemoveParent child) = Linked child (link_in w.children child) None ∷ []
deltas_of w (PutResource name value) =
    ResourceSet name (resource_of w.resources name) (Some (put_over (resource_of w.resources name) value w.tick)) ∷ []
deltas_of w (RemoveResource name) = ResourceSet name (resource_of w.resources name) None ∷ []
