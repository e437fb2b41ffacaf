use Rattle.std.proofs.Common.{◌≡◌, length, take}
use Rattle.scene_undo.proofs.stacks.Stacks.cut.Given as goal

abbrev pub invariant-loop-self : goal.invariant-loop-self
invariant-loop-self l = (take l.depth l.self.past ≡ take l.depth l.initial.self.past)
    × (l.self.future ≡ l.initial.self.future) × (l.self.depth ≡ l.initial.self.depth) × (l.depth ≡ l.initial.self.depth)

abbrev pub decreases-loop-self : goal.decreases-loop-self
decreases-loop-self l = length l.self.past
