use Rattle.std.proofs.Common.{◌≡◌, take}
use Rattle.scene_journal.specs.Newest.{Covers}
use Rattle.scene_world.specs.Room.{IsWider}
use Rattle.scene_undo.specs.declared.direction.Direction.TheVariants.{Undo}
use Rattle.scene_undo.specs.Direction.{CanAll, after, in_turn}
use Rattle.scene_undo.proofs.parts.go_through.Given as goal

abbrev pub invariant-loop-number : goal.invariant-loop-number
invariant-loop-number l =
    ((l.draft.world ≡ after l.direction (take l.number (in_turn l.direction l.frames)) l.initial.draft.world)
    × CanAll l.direction l.draft.room (take l.number (in_turn l.direction l.frames)) l.initial.draft.world)
    × IsWider l.initial.draft.room l.draft.room
    × (l.direction ≡ Undo → Covers l.newest l.draft.world)
