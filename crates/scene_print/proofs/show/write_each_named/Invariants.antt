use Rattle.std.proofs.Common.{◌≡◌, ◌++◌, drop, map, string_bytes}
use Rattle.scene_print.specs.ShowSteps.{named_text}
use Rattle.scene_print.proofs.show.write_each_named.Given as goal

abbrev pub invariant-names : goal.invariant-names
invariant-names l = string_bytes l.out ++ named_text l.resources.cells (map string_bytes (drop l.name-index l.names)) ≡ string_bytes l.initial.out ++ named_text l.resources.cells (map string_bytes l.names)
