use Rattle.std.proofs.Common.{◌≡◌, drop, Some}
use Rattle.std.specs.Prelude.{slice_get}
use Rattle.std.specs.List.{list_all}
use Rattle.scene_kinds.specs.declared.cells.Row.{Row}
use Rattle.scene_model.specs.Valid.{is_timely}
use Rattle.scene_model.specs.Timely.{row_is_timely}
use Rattle.scene_deltas.proofs.timely.row_is_timely.Given as goal

abbrev pub invariant-loop-number : goal.invariant-loop-number
invariant-loop-number l = (row : Row) → slice_get l.table.rows l.at ≡ Some row → list_all (λ c. is_timely l.tick c.1) (drop l.number row.cells) ≡ row_is_timely l.tick row
