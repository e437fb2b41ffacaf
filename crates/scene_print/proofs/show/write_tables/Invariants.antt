use Rattle.std.proofs.Common.{◌≡◌, ◌++◌, drop, string_bytes}
use Rattle.scene_print.specs.Shown.{tables_text}
use Rattle.scene_print.proofs.show.write_tables.Given as goal

abbrev pub invariant-masks : goal.invariant-masks
invariant-masks l = string_bytes l.out ++ tables_text l.world.world (drop l.mask-index l.masks) ≡ string_bytes l.initial.out ++ tables_text l.world.world l.masks
