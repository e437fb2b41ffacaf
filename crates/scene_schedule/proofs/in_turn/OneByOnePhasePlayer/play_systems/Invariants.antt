use Rattle.std.proofs.Common.{◌≡◌, List, length, map}
use Rattle.scene_queue.specs.Queue.{QueueState}
use Rattle.scene_world.specs.Room.{IsWider}
use Rattle.scene_schedule.specs.Systems.{SystemOutput}
use Rattle.scene_schedule.proofs.InTurnPhases.{HaveRun}
use Rattle.scene_schedule.proofs.in_turn.OneByOnePhasePlayer.play_systems.Given as goal

-- the systems so far wrote, and queued these queues
abbrev pub invariant-systems : goal.invariant-systems
invariant-systems g l = let s = g.S.Stage in record {
  outs : List SystemOutput;
  ran : HaveRun s.note l.rules (s.seen l.fn.stage) l.at outs (s.seen l.stage);
  queued : map (λ (q : QueueState). q.commands) l.queues.items ≡ map (λ (out : SystemOutput). out.commands) outs;
  count : length l.queues.items ≡ l.at;
  schema : (s.seen l.stage).world.schema ≡ (s.seen l.fn.stage).world.schema;
  opening : s.opening l.stage ≡ s.opening l.fn.stage;
  wide : IsWider (s.room l.fn.stage) (s.room l.stage);
}
