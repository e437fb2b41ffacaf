use Rattle.std.proofs.Common.{ap, ◌+◌, ◌∙◌, is_some, sym}
use Rattle.serde_json.specs.Find.{as_null}
use Rattle.scene_json.specs.NodeData.{seen}
use Rattle.scene_json.proofs.Seen.{no_null}
use Rattle.scene_json.proofs.part.Part.is_null.Goals as goal

pub returns-in_default : goal.returns-in_default
returns-in_default c =
    let p = c.args.self.now in
    no_null c.node.result (seen (p.at + 1) p.nodes.now) c.in_default.not-Null ∙ ap (λ d. is_some (as_null d)) (sym c.node.ensures)
