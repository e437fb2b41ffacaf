use Rattle.std.proofs.Common.{◌≡◌, take}
use Rattle.scene_undo.specs.Direction.{after, in_turn}
use Rattle.scene_undo.proofs.parts.go_home.Given as goal

abbrev pub invariant-loop-number : goal.invariant-loop-number
invariant-loop-number l = (l.draft.world ≡ after l.direction (take l.number (in_turn l.direction l.frames)) l.initial.draft.world)
    × (l.draft.room ≡ l.initial.draft.room)
