use Rattle.std.proofs.Common.{◌≡◌, ◌++◌, drop, string_bytes}
use Rattle.std.specs.Prelude.{false, map as each}
use Rattle.scene_print.specs.JsonShown.{resource_member}
use Rattle.scene_json_forms.specs.NamedCells.{named_cells}
use Rattle.scene_print.specs.JsonSteps.{left_text}
use Rattle.scene_print.proofs.json_world.write_named.Given as goal

abbrev pub invariant-names : goal.invariant-names
invariant-names l = string_bytes l.out ++ left_text l.later resource_member
    (named_cells l.resources.cells (each string_bytes (drop l.name-index l.names)))
    ≡ string_bytes l.initial.out ++ left_text false resource_member (named_cells l.resources.cells (each string_bytes l.names))
