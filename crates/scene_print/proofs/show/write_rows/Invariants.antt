use Rattle.std.proofs.Common.{◌≡◌, ◌++◌, drop, string_bytes}
use Rattle.scene_print.specs.Shown.{rows_text}
use Rattle.scene_print.proofs.show.write_rows.Given as goal

abbrev pub invariant-rows : goal.invariant-rows
invariant-rows l = string_bytes l.out ++ rows_text l.kinds (drop l.at l.table.rows) ≡ string_bytes l.initial.out ++ rows_text l.kinds l.table.rows
