use Rattle.std.proofs.Common.{sym}
use Rattle.scene_json.specs.NodeData.{seen}
use Rattle.scene_json.proofs.Elements.{as_many}
use Rattle.scene_json.proofs.parts.Parts.len.Goals as goal

pub returns : goal.returns
returns c = let p = c.args.self.now in sym (as_many p.left (seen p.at p.nodes.now))
