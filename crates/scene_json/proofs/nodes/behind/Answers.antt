use Rattle.std.proofs.Common.{arith}
use Rattle.scene_json.proofs.Seen.{none_past, none_behind, others_by}
use Rattle.scene_json.proofs.nodes.behind.Goals as goal

pub returns-then-at-nodes : goal.returns-then-at-nodes
returns-then-at-nodes c = none_past c.args.at c.args.nodes.now (omega arith)

pub returns-then-inside-nodes : goal.returns-then-inside-nodes
returns-then-inside-nodes c = others_by c.args.at c.inside-inside.result c.args.nodes.now c.node_at.result c.node_at.ensures c.inside-inside.ensures

pub returns-else-inside-nodes : goal.returns-else-inside-nodes
returns-else-inside-nodes c =
    none_behind c.args.at c.inside-inside.result c.args.nodes.now c.node_at.result c.node_at.ensures c.inside-inside.ensures (omega arith)
