use Rattle.std.proofs.Common.{arith}
use Rattle.scene_json.specs.declared.node.Node.TheVariants.{Object}
use Rattle.scene_json.proofs.Growing.{closed}
use Rattle.scene_json.proofs.filling.close_object.Goals as goal

pub returns : goal.returns
returns c = λ old more e at. closed old more c.args.nodes.now.items c.args.at c.len.result (λ n. Object n c.args.count) e at (grind arith)
