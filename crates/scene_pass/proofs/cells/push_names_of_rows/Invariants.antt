use Rattle.std.proofs.Common.{◌≡◌, ◌≤◌, ◌-◌, ◌++◌, drop}
use Rattle.std.specs.List.{flat_map}
use Rattle.scene_pass.specs.Pass.{names_in}
use Rattle.scene_table.specs.Since.{is_since}
use Rattle.scene_pass.proofs.cells.push_names_of_rows.Given as goal

abbrev pub invariant-parts : goal.invariant-parts
invariant-parts l = record {
  within : l.from ≤ l.count;
  listed : l.names.items ++ flat_map (names_in (is_since l.since)) (drop l.from l.table.rows) ≡ l.initial.names.items ++ flat_map (names_in (is_since l.since)) l.table.rows;
}

abbrev pub decreases-parts : goal.decreases-parts
decreases-parts l = l.count - l.from
