-- What the passes list, in the words of a world's readers.
use Rattle.std.specs.Prelude.{◌≡◌, ℕ, true, Some, Ok}
use Rattle.scene_kinds.specs.declared.entity.Entity.{Entity}
use Rattle.scene_kinds.specs.declared.cell.Cell.{Cell}
use Rattle.scene_kinds.specs.KindSet.{KindSet}
use Rattle.scene_model.specs.World.{World, mask_at, component_of}
use Rattle.scene_pass.specs.declared.cell_name.CellName.{CellName}
use Rattle.scene_systems.specs.declared.filter.Filter.{Filter}
use Rattle.scene_systems.specs.Filter.{is_match}

-- an entity is alive, and its kind set matches
abbrev pub Matches : World → Filter → Entity → Type 0
Matches w f e = (mask : KindSet) × ((mask_at w e ≡ Some mask) × (is_match f mask ≡ true))

-- an entity has a cell of a kind, of which a fact holds
abbrev pub HasCellWhere : (Cell → Type 0) → World → Entity → ℕ → Type 0
HasCellWhere P w e kind = (cell : Cell) × ((component_of w e kind ≡ Ok cell) × P cell)

-- a cell whose entity's kind set matches, and of which a fact holds
abbrev pub IsCellWhere : (Cell → Type 0) → World → Filter → CellName → Type 0
IsCellWhere P w f n = Matches w f n.entity × HasCellWhere P w n.entity n.kind
