use Rattle.scene_json_tokens.proofs.FewNumbers.{below_taken}
use Rattle.scene_json_tokens.proofs.taken.U32FormTaken.take.Goals as goal

pub returns-then-number : goal.returns-then-number
returns-then-number c = below_taken 4294967296 c.args.reader.now c.take_count.new.reader c.in_ok-number.number c.if-number.true c.in_ok-number.ensures
