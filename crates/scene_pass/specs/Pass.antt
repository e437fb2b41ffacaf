-- What the passes over a world list.
use Rattle.std.specs.Prelude.{ℕ, List, [], Bool, nat_lt, map, if◌then◌else◌}
use Rattle.std.specs.List.{filter, flat_map}
use Rattle.scene_kinds.specs.declared.entity.Entity.{Entity}
use Rattle.scene_kinds.specs.declared.cell.Cell.{Cell}
use Rattle.scene_kinds.specs.declared.cells.Row.{Row}
use Rattle.scene_kinds.specs.KindSet.{KindSet}
use Rattle.scene_model.specs.World.{World, kind_sets}
use Rattle.scene_table.specs.Tables.{rows_at}
use Rattle.scene_systems.specs.declared.filter.Filter.{Filter}
use Rattle.scene_pass.specs.declared.cell_name.CellName.{CellName}
use Rattle.scene_systems.specs.Filter.{is_match}

-- the rows of a kind set where the filter matches it
abbrev pub rows_in : World → Filter → KindSet → List Row
rows_in w f mask = if is_match f mask then rows_at w.tables mask else []

-- the rows of the matching kind sets: by ascending kind set, then by place
abbrev pub matching_rows : World → Filter → List Row
matching_rows w f = flat_map (rows_in w f) (kind_sets w)

-- their entities
abbrev pub matching : World → Filter → List Entity
matching w f = map (λ row. row.entity) (matching_rows w f)

-- the cells of a row that pass a test, by kind
abbrev pub names_in : (Cell → Bool) → Row → List CellName
names_in test row = map (λ c. record { entity = row.entity; kind = c.0 }) (filter (λ c. test c.1) row.cells)

-- the cells of matching rows that pass a test: by row, then by kind
abbrev pub cells_where : (Cell → Bool) → World → Filter → List CellName
cells_where test w f = flat_map (names_in test) (matching_rows w f)

-- those that were changed after a tick
abbrev pub changed_since : World → Filter → ℕ → List CellName
changed_since w f tick = cells_where (λ cell. nat_lt tick cell.changed) w f

-- those that were added after a tick
abbrev pub added_since : World → Filter → ℕ → List CellName
added_since w f tick = cells_where (λ cell. nat_lt tick cell.added) w f
