use Rattle.std.proofs.Common.{◌≡◌, ◌∷◌, subst, rules}
use Rattle.json.specs.Token.{Token}
use Rattle.scene_json_tokens.specs.Taken.{IsInt}
use Rattle.scene_json_tokens.proofs.FewNumbers.{if_some, int_taken}
use Rattle.scene_json_tokens.proofs.numbers.take_int.Goals as goal

pub returns-in-Number : goal.returns-in-Number
returns-in-Number c =
    let s = c.in-Number.text.now in
    let first : c.args.reader.now ≡ Token.number s ∷ c.next.new.self = search rules in
    if_some c.few_signed.result (λ z h. int_taken c.args.reader.now c.next.new.self s z first
    (subst (λ l. IsInt l z) c.as_bytes.ensures.value h)) c.few_signed.ensures
