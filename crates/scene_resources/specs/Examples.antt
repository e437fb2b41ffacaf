-- A few named cells, for the worked examples.
use Rattle.std.specs.Prelude.{ℕ, codes, pos, [], ◌∷◌}
use Rattle.scene_kinds.specs.declared.cell.Cell.{Cell}
use Rattle.scene_kinds.specs.declared.value.Value.{Value}
use Rattle.scene_kinds.specs.declared.value.Value.TheVariants as value
use Rattle.scene_kinds.specs.Map as map
use Rattle.scene_resources.specs.Resources.{NamedCells}

-- a number as a value
abbrev pub number : ℕ → Value
number n = value.Int (pos n)

-- a cell with such a number, added and changed at two ticks
abbrev pub cell : ℕ → ℕ → ℕ → Cell
cell n added changed = record { value = number n; added = added; changed = changed }

-- left is 7 since tick 1
abbrev pub one : NamedCells
one = map.of ((codes "left", cell 7 1 1) ∷ []) tt

-- and gold is 3 since tick 2
abbrev pub two : NamedCells
two = map.of ((codes "gold", cell 3 2 2) ∷ (codes "left", cell 7 1 1) ∷ []) tt
