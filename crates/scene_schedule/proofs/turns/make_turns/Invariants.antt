use Rattle.std.proofs.Common.{◌≡◌, ◌<◌, ℕ, length, Some, None}
use Rattle.std.specs.Prelude.{slice_get, slice_index_or}
use Rattle.scene_systems.specs.declared.system_rule.SystemRule.{SystemRule}
use Rattle.scene_schedule.specs.Turns.{IsTurn}
use Rattle.scene_schedule.proofs.turns.make_turns.Given as goal

abbrev pub invariant-systems : goal.invariant-systems
invariant-systems g l = record {
  count : length l.list.items ≡ l.at;
  turns : (i : ℕ) (rule : SystemRule) → i < l.at → slice_get l.rules i ≡ Some rule
      → IsTurn (g.G.Gate.passed l.gated.gate.now) l.workers l.worker l.gated.world.now.world i rule (slice_index_or l.list.items i None);
}
