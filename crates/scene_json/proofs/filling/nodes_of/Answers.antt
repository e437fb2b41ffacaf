use Rattle.std.proofs.Common.{◌≡◌, [], Some, ap, sym, ◌∙◌, rules}
use Rattle.json.specs.Json.{value}
use Rattle.json.specs.Lex.{tokens}
use Rattle.serde_json.specs.Read.{of_json, converted}
use Rattle.scene_json.specs.NodeData.{first, seen}
use Rattle.scene_json.proofs.Turns.{whole_read}
use Rattle.scene_json.proofs.Growing.{grown_whole}
use Rattle.scene_json.proofs.filling.nodes_of.Goals as goal

pub returns-clause-found : goal.returns-clause-found
returns-clause-found c =
    let one = c.in_ok-read_value.ensures.added in
    let ended : c.read_value.new.reader ≡ [] = search rules in
    let empty : c.new-nodes.result.items ≡ [] = search rules in
    let says : first (seen 0 c.read_value.new.nodes.items) ≡ one.0 =
    grown_whole c.new-nodes.result.items c.read_value.new.nodes.items one.0 empty one.1 in
    whole_read (value 127 (tokens c.args.text.now)) one.0
    (ap (λ ts. converted of_json (value 127 ts)) (sym c.in-Ok.ensures.ok) ∙ one.2 ∙ ap (λ r. Some (one.0, r)) ended) ∙ ap Some (sym says)
