-- How the map of the code, in which a name may be kept without a cell, is seen as named cells.
use Rattle.std.specs.Prelude.{ℕ, List, [], ◌∷◌, map, Option, String, string_bytes}
use Rattle.std.specs.Map.{keys_of}
use Rattle.std.specs.declared.alloc.Global.{Global}
use Rattle.scene_kinds.specs.declared.cell.Cell.{Cell}
use Rattle.scene_kinds.specs.Map as cells
use Rattle.scene_resources.specs.Resources.{NamedCells, StoredResources, restore_of}

-- the cells of a map's entries
abbrev pub named_cells : List (String Global × Option Cell) → NamedCells
named_cells [] = cells.empty
named_cells (e ∷ es) = restore_of (named_cells es) (string_bytes e.0) e.1

-- the names of a map's entries
abbrev pub kept_names : List (String Global × Option Cell) → List (List ℕ)
kept_names es = map string_bytes (keys_of es)

-- the entries as contracts see them
abbrev pub stored : List (String Global × Option Cell) → StoredResources
stored es = record { cells = named_cells es; kept = kept_names es }
