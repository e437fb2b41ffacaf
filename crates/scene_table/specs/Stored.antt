-- What contracts see of the ticks of a run.
use Rattle.std.specs.Prelude.{map}
use Rattle.scene_table.specs.declared.changed.Ticks.{Ticks}
use Rattle.scene_table.specs.declared.changed.Ticks.TheVariants.{Same as StoredSame, Each as StoredEach}
use Rattle.scene_table.specs.Runs.{Changed, Same, Each}

-- changed ticks
abbrev pub changed_seen : Ticks → Changed
changed_seen (StoredSame tick) = Same tick
changed_seen (StoredEach columns) = Each (map (λ column. column.items) columns.items)
