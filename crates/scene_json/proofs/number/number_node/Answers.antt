use Rattle.std.proofs.Common.{refl}
use Rattle.serde_json.specs.Data.{unsigned}
use Rattle.scene_json.proofs.FewDigits.{few_say}
use Rattle.scene_json.proofs.number.number_node.Goals as goal

pub returns-in-Some : goal.returns-in-Some
returns-in-Some c =
    let n = c.in-Some.ensures in
    (unsigned c.in-Some.count, few_say c.args.text.now c.as_bytes.result.now c.in-Some.count c.as_bytes.ensures.value n.0 n.1 n.2, refl, λ ds. refl)
