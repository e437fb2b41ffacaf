-- What a record has of a despawn.
use Rattle.std.specs.Prelude.{◌≡◌, ℕ, List, Bool, Option, Some}
use Rattle.scene_kinds.specs.declared.entity.Entity.{Entity}
use Rattle.scene_kinds.specs.declared.cell.Cell.{Cell}
use Rattle.scene_kinds.specs.declared.cells.Row.{Row}
use Rattle.scene_alloc.specs.Slots.{retires}
use Rattle.scene_links.specs.Forest.{link_in}
use Rattle.scene_table.specs.declared.home.Home.{Home}
use Rattle.scene_model.specs.World.{World, row_of}

-- the place and the cells of an entity's row, its parent with its place there, and whether its index retires
pub record IsDespawnOf (w : World) (e : Entity) (place : ℕ) (cells : List (ℕ × Cell)) (link : Option (Entity × ℕ)) (retired : Bool) : Type 0 where
  pub home : Home
  pub row : Row
  pub found : row_of w e ≡ Some (home, row)
  pub stood : place ≡ home.place
  pub had : cells ≡ row.cells
  pub linked : link ≡ link_in w.children e
  pub gone : retired ≡ retires e
