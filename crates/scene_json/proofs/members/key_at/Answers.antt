use Rattle.std.proofs.Common.{ap, ◌+◌, ◌∙◌, sym}
use Rattle.scene_json.specs.NodeData.{says, seen, text_in}
use Rattle.scene_json.proofs.Seen.{first_by, no_text}
use Rattle.scene_json.proofs.members.key_at.Goals as goal

pub returns-in-String : goal.returns-in-String
returns-in-String c =
    let ds = seen (c.args.at + 1) c.args.nodes.now in
    ap (λ n. text_in (says n ds)) (sym c.in-String.is) ∙ ap text_in (sym (first_by c.args.at c.args.nodes.now c.node_at.result c.node_at.ensures))

pub returns-in_default : goal.returns-in_default
returns-in_default c =
    let ds = seen (c.args.at + 1) c.args.nodes.now in
    no_text c.node_at.result ds c.in_default.not-String
    ∙ ap text_in (sym (first_by c.args.at c.args.nodes.now c.node_at.result c.node_at.ensures))
