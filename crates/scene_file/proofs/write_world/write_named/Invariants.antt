use Rattle.std.proofs.Common.{◌≡◌, ◌++◌, drop, string_bytes}
use Rattle.std.specs.Prelude.{false, map as each}
use Rattle.scene_json_forms.specs.Printing.{rest_text}
use Rattle.scene_file.specs.Text.{resource_text}
use Rattle.scene_json_forms.specs.NamedCells.{named_cells}
use Rattle.scene_file.proofs.write_world.write_named.Given as goal

abbrev pub invariant-names : goal.invariant-names
invariant-names l = string_bytes l.out ++ rest_text l.later resource_text
    (named_cells l.resources.cells (each string_bytes (drop l.name-index l.names)))
    ≡ string_bytes l.initial.out ++ rest_text false resource_text (named_cells l.resources.cells (each string_bytes l.names))
