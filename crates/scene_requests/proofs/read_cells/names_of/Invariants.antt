use Rattle.std.proofs.Common.{map as each}
use Rattle.scene_requests.proofs.CellLists.{AreNamed}
use Rattle.scene_requests.proofs.read_cells.names_of.Given as goal

-- the names so far
abbrev pub invariant-kinds : goal.invariant-kinds
invariant-kinds l = AreNamed l.schema (each (λ name. name.now) l.names.items) l.kind
