use Rattle.std.proofs.Common.{◌≡◌, take}
use Rattle.scene_world.specs.Room.{IsWider}
use Rattle.scene_schedule.specs.TableWrites.{WroteOn, changes_in}
use Rattle.scene_schedule.proofs.in_turn.write_tables.Given as goal

-- the tables so far were written
abbrev pub invariant-tables : goal.invariant-tables
invariant-tables g l = let s = g.S.Stage in record {
  wrote : WroteOn s.note (changes_in (s.seen l.fn.stage).world l.steps (take l.number l.sets)) (s.seen l.fn.stage) (s.seen l.stage);
  opening : s.opening l.stage ≡ s.opening l.fn.stage;
  wide : IsWider (s.room l.fn.stage) (s.room l.stage);
}
