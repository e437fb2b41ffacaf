use Rattle.std.proofs.Common.{sym, ap, ◌∙◌}
use Rattle.scene_json.proofs.Numbers.{i64_below, i64_by, behind_sign, with_sign_too}
use Rattle.scene_json.proofs.number.i64_of.Goals as goal

pub returns-then-has_minus : goal.returns-then-has_minus
returns-then-has_minus c =
    let t = c.as_bytes-text.result.now in
    i64_below c.args.text.now t c.scan.result c.negative.result c.as_bytes-text.ensures.value c.if-has_minus.ensures.sign
    (behind_sign t c.scan.result c.scan.ensures.parts) c.negative.ensures

pub returns-in_err-unsigned : goal.returns-in_err-unsigned
returns-in_err-unsigned c =
    c.from_residual.ensures ∙ ap with_sign_too (sym c.in_err-unsigned.was)
    ∙ i64_by c.args.text.now c.as_bytes-text.result.now c.scan-2.result c.unsigned.result c.as_bytes-text.ensures.value c.if-has_minus.ensures.sign
    c.scan-2.ensures.parts c.unsigned.ensures

pub returns : goal.returns
returns c =
    c.signed.ensures ∙ ap with_sign_too (sym c.in_ok-unsigned.was)
    ∙ i64_by c.args.text.now c.as_bytes-text.result.now c.scan-2.result c.unsigned.result c.as_bytes-text.ensures.value c.if-has_minus.ensures.sign
    c.scan-2.ensures.parts c.unsigned.ensures
