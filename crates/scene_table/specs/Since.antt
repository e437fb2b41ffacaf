-- Which cells are asked for, by their ticks, and whether rows have one.
use Rattle.std.specs.Prelude.{Bool, List, nat_lt}
use Rattle.std.specs.List.{list_any}
use Rattle.scene_kinds.specs.declared.cell.Cell.{Cell}
use Rattle.scene_kinds.specs.declared.cells.Row.{Row}
use Rattle.scene_table.specs.declared.since.Since.{Since}
use Rattle.scene_table.specs.declared.since.Since.TheVariants.{Added, Changed}

-- a cell was added, or changed, after a tick
abbrev pub is_since : Since → Cell → Bool
is_since (Added tick) cell = nat_lt tick cell.added
is_since (Changed tick) cell = nat_lt tick cell.changed

-- a row has such a cell
abbrev pub row_has : Since → Row → Bool
row_has since row = list_any (λ c. is_since since c.1) row.cells

-- and so does one of some rows
abbrev pub rows_have : Since → List Row → Bool
rows_have since rows = list_any (row_has since) rows
