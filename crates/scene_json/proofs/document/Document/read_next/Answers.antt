use Rattle.std.proofs.Common.{◌≡◌, [], Some, ap, sym, ◌∙◌, rules}
use Rattle.scene_json.proofs.Growing.{grown_whole}
use Rattle.scene_json.proofs.document.Document.read_next.Goals as goal

pub returns-clause-found : goal.returns-clause-found
returns-clause-found c =
    let one = c.in_ok-read_value.ensures.added in
    let empty : c.new-nodes.result.items ≡ [] = search rules in
    one.2 ∙ ap (λ d. Some (d, c.read_value.new.reader)) (sym (grown_whole c.new-nodes.result.items c.read_value.new.nodes.items one.0 empty one.1))
