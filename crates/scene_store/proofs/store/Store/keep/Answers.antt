use Rattle.std.proofs.Common.{arith}
use Rattle.scene_store.proofs.StoreLemmas.{keeps_more, keeps_quiet}
use Rattle.scene_store.proofs.store.Store.keep.Goals as goal

pub returns-clause-kept : goal.returns-clause-kept
returns-clause-kept g c = keeps_more g.S.Store c.args.self.now (record { conn = c.add.new.conn }) (λ clean. omega (arith, c.add.ensures.survives.clean)) c.add.result c.args.lines.now c.add.ensures.added

pub returns-clause-err : goal.returns-clause-err
returns-clause-err g c = keeps_quiet g.S.Store c.args.self.now (record { conn = c.add.new.conn }) (λ clean. omega (arith, c.add.ensures.survives.clean)) c.add.result c.add.ensures.err
