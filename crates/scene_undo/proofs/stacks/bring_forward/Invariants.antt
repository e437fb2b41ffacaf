use Rattle.std.proofs.Common.{◌≡◌, ◌≤◌, ◌+◌, ℕ, length, take, drop, get_or}
use Rattle.scene_journal.specs.Records.{Record}
use Rattle.scene_undo.proofs.stacks.bring_forward.Given as goal

abbrev pub invariant-loop-place : goal.invariant-loop-place
invariant-loop-place l = record {
  long : length l.records ≡ length l.initial.records;
  front : take l.place l.records ≡ take l.place (drop l.from l.initial.records);
  behind : (k : ℕ) (d : Record) → l.from + l.place ≤ k → get_or l.records k d ≡ get_or l.initial.records k d;
}
