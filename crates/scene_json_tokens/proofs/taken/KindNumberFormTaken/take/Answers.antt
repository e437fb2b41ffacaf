use Rattle.std.proofs.Common.{◌<◌, arith}
use Rattle.scene_json_tokens.proofs.FewNumbers.{below_taken}
use Rattle.scene_json_tokens.proofs.taken.KindNumberFormTaken.take.Goals as goal

pub returns-then-number-from : goal.returns-then-number-from
returns-then-number-from c =
    let small : c.in_ok-number.number < c.args.self.now.count = omega (arith, c.if-number-from.true, c.from.ensures) in
    below_taken c.args.self.now.count c.args.reader.now c.take_count.new.reader c.in_ok-number.number small c.in_ok-number.ensures
