use Rattle.std.proofs.Common.{◌≡◌, ◌<◌, ◌-◌, ◌∷◌, drop, length, take, rules}
use Rattle.scene_json_tokens.proofs.FewNumbers.{above_zero, begins_with, below_zero}
use Rattle.scene_json_tokens.proofs.numbers.few_signed.Goals as goal

pub returns-then-not-has_minus : goal.returns-then-not-has_minus
returns-then-not-has_minus c =
    let said = c.in_ok-number.ensures in
    above_zero c.args.bytes.now c.in_ok-number.number said.0 said.1 said.2

pub returns : goal.returns
returns c =
    let n = c.in_ok-number-2.number in
    let said = c.in_ok-number-2.ensures in
    let behind = take (length c.args.bytes.now - 1) (drop 1 c.args.bytes.now) in
    let minus : c.args.bytes.now ≡ 45 ∷ behind = begins_with c.args.bytes.now 45 (search rules) (search rules) in
    let some : 0 < n = search rules in
    below_zero c.args.bytes.now behind n minus said.0 said.1 some said.2
