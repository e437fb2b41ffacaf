use Rattle.scene_json.proofs.Numbers.{u64_none, u64_by}
use Rattle.scene_json.proofs.number.u64_of.Goals as goal

pub returns-then-has_minus : goal.returns-then-has_minus
returns-then-has_minus c = u64_none c.args.text.now c.as_bytes-text.result.now c.as_bytes-text.ensures.value c.if-has_minus.ensures.sign

pub returns : goal.returns
returns c =
    u64_by c.args.text.now c.as_bytes-text.result.now c.scan.result c.unsigned.result c.as_bytes-text.ensures.value c.if-has_minus.ensures.sign
    c.scan.ensures.parts c.unsigned.ensures
