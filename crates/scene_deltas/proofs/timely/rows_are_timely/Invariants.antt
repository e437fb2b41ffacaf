use Rattle.std.proofs.Common.{◌≡◌, drop}
use Rattle.scene_model.specs.Timely.{rows_are_timely}
use Rattle.scene_deltas.proofs.timely.rows_are_timely.Given as goal

abbrev pub invariant-loop-at : goal.invariant-loop-at
invariant-loop-at l = rows_are_timely l.tick (drop l.at l.table.rows) ≡ rows_are_timely l.tick l.table.rows
