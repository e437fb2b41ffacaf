use Rattle.std.proofs.Common.{◌≡◌, ◌||◌, is_some, sym, ap, ◌∙◌}
use Rattle.std.specs.Float.{binary64, float_is_finite}
use Rattle.fast_float.specs.Text.{nearest}
use Rattle.scene_json.proofs.Numbers.{range_minus, range_digits, behind_sign}
use Rattle.scene_json.proofs.number.is_in_range.Goals as goal
use Rattle.std.specs.Prelude.{true, false}

pub returns-then-is_some : goal.returns-then-is_some
returns-then-is_some c =
    let t = c.as_bytes-text.result.now in
    let p = c.scan-numeral.result in
    let some : is_some c.negative.result ≡ true = sym c.is_some.ensures ∙ c.if-is_some.true in
    c.if-is_some.true ∙ ap (λ b. b || float_is_finite (nearest binary64 true p)) (sym some)
    ∙ range_minus c.args.text.now t p c.negative.result c.as_bytes-text.ensures.value c.if-has_minus.ensures.sign
    (behind_sign t p c.scan-numeral.ensures.parts) c.negative.ensures

pub returns-else-is_some : goal.returns-else-is_some
returns-else-is_some c =
    let t = c.as_bytes-text.result.now in
    let p = c.scan-numeral.result in
    let none : is_some c.negative.result ≡ false = sym c.is_some.ensures ∙ c.if-is_some.false in
    c.is_finite.ensures ∙ ap (λ b. b || float_is_finite (nearest binary64 true p)) (sym none)
    ∙ range_minus c.args.text.now t p c.negative.result c.as_bytes-text.ensures.value c.if-has_minus.ensures.sign
    (behind_sign t p c.scan-numeral.ensures.parts) c.negative.ensures

pub returns-then-is_some-2 : goal.returns-then-is_some-2
returns-then-is_some-2 c =
    let p = c.scan-numeral-2.result in
    let some : is_some c.unsigned.result ≡ true = sym c.is_some-2.ensures ∙ c.if-is_some-2.true in
    c.if-is_some-2.true ∙ ap (λ b. b || float_is_finite (nearest binary64 false p)) (sym some)
    ∙ range_digits c.args.text.now c.as_bytes-text.result.now p c.unsigned.result c.as_bytes-text.ensures.value c.if-has_minus.ensures.sign
    c.scan-numeral-2.ensures.parts c.unsigned.ensures

pub returns-else-is_some-2 : goal.returns-else-is_some-2
returns-else-is_some-2 c =
    let p = c.scan-numeral-2.result in
    let none : is_some c.unsigned.result ≡ false = sym c.is_some-2.ensures ∙ c.if-is_some-2.false in
    c.is_finite-else-is_some-2.ensures ∙ ap (λ b. b || float_is_finite (nearest binary64 false p)) (sym none)
    ∙ range_digits c.args.text.now c.as_bytes-text.result.now p c.unsigned.result c.as_bytes-text.ensures.value c.if-has_minus.ensures.sign
    c.scan-numeral-2.ensures.parts c.unsigned.ensures
