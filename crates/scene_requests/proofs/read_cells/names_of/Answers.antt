use Rattle.std.proofs.Common.{◌≡◌, ◌<◌, ◌++◌, ◌∷◌, [], length, rules}
use Rattle.scene_requests.proofs.CellLists.{name_on}
use Rattle.scene_requests.proofs.read_cells.names_of.Goals as goal

pub kinds-preserved : goal.kinds-preserved
kinds-preserved c =
    let low : c.kinds.kind < length c.args.schema.now = search rules in
    let grown : c.push.new.self.items ≡ c.kinds.names.items ++ c.name_at.result ∷ [] = search rules in
    name_on (λ name. name.now) c.args.schema.now c.kinds.names.items c.push.new.self.items c.name_at.result c.kinds.kind low grown
    c.name_at.ensures c.kinds.invariant
