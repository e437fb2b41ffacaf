use Rattle.std.proofs.Common.{◌≡◌, ◌+◌, drop, length}
use Rattle.std.specs.List.{flat_map}
use Rattle.scene_schedule.proofs.queued.count_rows.Given as goal

abbrev pub invariant-tables : goal.invariant-tables
invariant-tables l = l.count + length (flat_map (λ t. t.now.rows) (drop l.table-index l.tables)) ≡ length (flat_map (λ t. t.now.rows) l.tables)
