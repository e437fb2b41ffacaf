use Rattle.std.proofs.Common.{arith}
use Rattle.scene_store.proofs.StoreLemmas.{keeps_others, keeps_both}
use Rattle.scene_store.proofs.store.Store.replace.Goals as goal

pub returns-clause-replaced : goal.returns-clause-replaced
returns-clause-replaced g c = keeps_others g.S.Store c.args.self.now (record { conn = c.rewrite.new.conn }) (λ clean. omega (arith, c.rewrite.ensures.crash.clean)) c.rewrite.result c.args.lines.now c.rewrite.ensures.done

pub returns-clause-err : goal.returns-clause-err
returns-clause-err g c = keeps_both g.S.Store c.args.self.now (record { conn = c.rewrite.new.conn }) (λ clean. omega (arith, c.rewrite.ensures.crash.clean)) c.rewrite.result c.rewrite.ensures.neither c.rewrite.ensures.mode
