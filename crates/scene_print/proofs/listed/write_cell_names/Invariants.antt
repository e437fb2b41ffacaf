use Rattle.std.proofs.Common.{◌≡◌, ◌++◌, drop, string_bytes}
use Rattle.scene_print.specs.Listed.{cell_names_text}
use Rattle.scene_print.proofs.listed.write_cell_names.Given as goal

abbrev pub invariant-cells : goal.invariant-cells
invariant-cells l = string_bytes l.out ++ cell_names_text l.schema (drop l.cell-index l.cells) ≡ string_bytes l.initial.out ++ cell_names_text l.schema l.cells
