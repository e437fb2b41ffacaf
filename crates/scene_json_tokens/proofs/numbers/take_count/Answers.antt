use Rattle.std.proofs.Common.{◌≡◌, ◌∷◌, rules}
use Rattle.json.specs.Token.{Token}
use Rattle.scene_json_tokens.proofs.FewNumbers.{count_taken, few_say, if_some}
use Rattle.scene_json_tokens.proofs.numbers.take_count.Goals as goal

pub returns-in-Number : goal.returns-in-Number
returns-in-Number c =
    let s = c.in-Number.text.now in
    let first : c.args.reader.now ≡ Token.number s ∷ c.next.new.self = search rules in
    if_some c.few_digits.result (λ n h. count_taken c.args.reader.now c.next.new.self s n first
    (few_say s c.as_bytes.result.now n c.as_bytes.ensures.value h.0 h.1 h.2)) c.few_digits.ensures
