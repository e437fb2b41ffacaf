use Rattle.std.proofs.Common.{◌≡◌, drop, bit_or}
use Rattle.std.specs.List.{fold}
use Rattle.scene_requests.proofs.read_words.union_of.Given as goal

-- what is left is put to what is there
abbrev pub invariant-loop-set : goal.invariant-loop-set
invariant-loop-set l = fold bit_or l.union (drop l.set-index l.sets) ≡ fold bit_or 0 l.sets
