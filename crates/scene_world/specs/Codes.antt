-- How the parts of what contracts see of a world are told apart.
use Rattle.std.specs.Prelude.{ℕ, List}
use Rattle.std.specs.Coded.{Coded, coded×, coded_list, coded_ℕ}
use Rattle.std.specs.Ordering.{nat_cmp}
use Rattle.scene_kinds.specs.contracts.cells.Row as row
use Rattle.scene_kinds.specs.contracts.entity.Entity as entity
use Rattle.scene_kinds.specs.contracts.cell.Cell as cell
use Rattle.scene_kinds.specs.Entity.{entity_cmp}
use Rattle.scene_kinds.specs.Map as map
use Rattle.scene_archetypes.specs.KindTables.{Rooms}
use Rattle.scene_links.specs.Forest.{Forest}
use Rattle.scene_resources.specs.Resources.{NamedCells, name_cmp}
use Rattle.scene_table.specs.Tables.{Tables}

-- tables by their kind sets and rows
abbrev pub tables_code : Coded Tables
tables_code = map.code {R = nat_cmp} coded_ℕ (coded× row.the_row.coded (coded_list row.the_row.coded))

-- the room of tables by kind set
abbrev pub rooms_code : Coded Rooms
rooms_code = map.code {R = nat_cmp} coded_ℕ coded_ℕ

-- links by parents and their children
abbrev pub forest_code : Coded Forest
forest_code = map.code {R = entity_cmp} entity.the_row.coded (coded× entity.the_row.coded (coded_list entity.the_row.coded))

-- resources by their names and cells
abbrev pub resources_code : Coded NamedCells
resources_code = map.code {R = name_cmp} (coded_list coded_ℕ) cell.the_row.coded

-- the names that are kept, by their bytes
abbrev pub names_code : Coded (List (List ℕ))
names_code = coded_list (coded_list coded_ℕ)
