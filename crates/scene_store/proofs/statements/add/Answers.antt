use Rattle.sqlite.specs.Held.{state}
use Rattle.sqlite.proofs.StateLemmas.{survives_weaker}
use Rattle.scene_store.specs.Store.{LeavesMore}
use Rattle.scene_store.proofs.StoreLemmas.{adds, adds_crash, executes_quiet}
use Rattle.scene_store.proofs.statements.add.Goals as goal

pub returns-in-Ok-clause-added : goal.returns-in-Ok-clause-added
returns-in-Ok-clause-added g c clean batches holds =
    adds (state g.S.Store c.args.conn.now) (state g.S.Store c.execute.new.self) batches c.args.lines.now c.in-Ok.field-0 holds (rw c.params-to_sql.ensures at (c.in-Ok.ensures.runs clean))

pub returns-in-Ok-clause-survives : goal.returns-in-Ok-clause-survives
returns-in-Ok-clause-survives g c =
    let old = state g.S.Store c.args.conn.now in
    survives_weaker old (state g.S.Store c.execute.new.self) _ (LeavesMore old c.args.lines.now) (λ _ db commits batches holds. adds_crash old batches c.args.lines.now db holds commits) (rw c.params-to_sql.ensures at c.execute.ensures.survives)

pub returns-in-Err-clause-err : goal.returns-in-Err-clause-err
returns-in-Err-clause-err g c clean = executes_quiet (state g.S.Store c.args.conn.now) (state g.S.Store c.execute.new.self) _ _ c.in-Err.error (c.in-Err.ensures.runs clean)

pub returns-in-Err-clause-survives : goal.returns-in-Err-clause-survives
returns-in-Err-clause-survives g c =
    let old = state g.S.Store c.args.conn.now in
    survives_weaker old (state g.S.Store c.execute.new.self) _ (LeavesMore old c.args.lines.now) (λ _ db commits batches holds. adds_crash old batches c.args.lines.now db holds commits) (rw c.params-to_sql.ensures at c.execute.ensures.survives)
