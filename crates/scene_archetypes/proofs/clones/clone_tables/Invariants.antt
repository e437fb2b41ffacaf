use Rattle.std.proofs.Common.{take}
use Rattle.std.specs.List.{AllZip}
use Rattle.scene_archetypes.proofs.Copies.{IsCopy}
use Rattle.scene_archetypes.proofs.clones.clone_tables.Given as goal

abbrev pub invariant-loop-table : goal.invariant-loop-table
invariant-loop-table l = AllZip IsCopy (take l.table-index l.tables) l.copies.items
