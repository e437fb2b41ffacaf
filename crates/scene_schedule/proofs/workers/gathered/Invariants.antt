use Rattle.std.proofs.Common.{◌≡◌, ◌<◌, length, drop, take, map}
use Rattle.scene_model.specs.Valid.{IsValid}
use Rattle.scene_schedule.specs.Systems.{changes_of}
use Rattle.scene_schedule.specs.AtOnce.{output_of, first_overflow}
use Rattle.scene_schedule.specs.Turns.{AreLeft, ArePassed}
use Rattle.scene_schedule.proofs.workers.gathered.Given as goal

abbrev pub invariant-systems : goal.invariant-systems
invariant-systems g l = record {
  valid : IsValid l.world.world;
  workers : 0 < length l.left.items;
  left : AreLeft (g.G.Gate.passed l.gate) l.world.world l.at l.rules l.left.items;
  count : length l.left.items ≡ length l.fn.done.items;
  passed : ArePassed (g.G.Gate.passed l.gate) (length l.fn.done.items) l.at;
  rows : l.rows.items ≡ map (changes_of l.world.world) (take l.at l.rules);
  queues : map (λ q. q.commands) l.queues.items ≡ map (λ rule. (output_of l.world.world rule).commands) (take l.at l.rules);
  over : first_overflow l.world.world l.at (drop l.at l.rules) ≡ first_overflow l.world.world 0 l.rules;
}
