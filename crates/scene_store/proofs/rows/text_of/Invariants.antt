use Rattle.std.proofs.Common.{take}
use Rattle.scene_store.specs.Store.{HoldText}
use Rattle.scene_store.proofs.rows.text_of.Given as goal

abbrev pub invariant-loop-at : goal.invariant-loop-at
invariant-loop-at l = HoldText (take l.at l.rows) l.lines.items
