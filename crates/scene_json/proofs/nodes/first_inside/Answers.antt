use Rattle.std.proofs.Common.{arith}
use Rattle.scene_json.proofs.Seen.{inside_past}
use Rattle.scene_json.proofs.nodes.first_inside.Goals as goal

pub returns-else-at-nodes : goal.returns-else-at-nodes
returns-else-at-nodes c = inside_past c.args.at c.args.nodes.now (omega arith)
