use Rattle.std.proofs.Common.{◌≡◌, ◌∷◌, true, rules}
use Rattle.json.specs.Token.{Token}
use Rattle.scene_json_tokens.proofs.CellsTaken.{tag_taken}
use Rattle.scene_json_tokens.proofs.values.take_tag.Goals as goal

pub returns-in-Bool-true : goal.returns-in-Bool-true
returns-in-Bool-true c =
    let first : c.args.reader.now ≡ Token.boolean true ∷ c.next.new.self = search rules in
    tag_taken c.args.reader.now c.next.new.self first
