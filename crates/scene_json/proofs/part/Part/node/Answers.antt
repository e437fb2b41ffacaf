use Rattle.scene_json.proofs.Seen.{first_by}
use Rattle.scene_json.proofs.part.Part.node.Goals as goal

pub returns : goal.returns
returns c = let p = c.args.self.now in first_by p.at p.nodes.now c.node_at.result c.node_at.ensures
