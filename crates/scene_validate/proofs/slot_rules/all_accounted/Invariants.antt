use Rattle.std.proofs.Common.{◌≡◌, ◌-◌, length}
use Rattle.std.specs.List.{list_all, range_with_len}
use Rattle.scene_validate.proofs.BrokenTests.{accounted_by}
use Rattle.scene_validate.proofs.slot_rules.all_accounted.Given as goal

abbrev pub invariant-loop-generation : goal.invariant-loop-generation
invariant-loop-generation l = record {
  at : l.index ≡ l.generation-index;
  rest : list_all (accounted_by l.generations l.live l.free) (range_with_len l.index (length l.generations - l.index)) ≡ list_all (accounted_by l.generations l.live l.free) (range_with_len 0 (length l.generations));
}
