use Rattle.std.proofs.Common.{◌≡◌}
use Rattle.sqlite.specs.Held.{state}
use Rattle.sqlite.proofs.StateLemmas.{survives_weaker}
use Rattle.scene_store.specs.Store.{store_schema}
use Rattle.scene_store.proofs.StoreLemmas.{queries_quiet, shows_no_commit}
use Rattle.scene_store.proofs.statements.all_rows.Goals as goal

pub returns-in-Ok-clause-survives : goal.returns-in-Ok-clause-survives
returns-in-Ok-clause-survives g c =
    let old = state g.S.Store c.args.conn.now in
    survives_weaker old (state g.S.Store c.query_all.new.self) _ (λ _. old.now.schema ≡ store_schema → ⊥) (λ _ db commits has. shows_no_commit old db has commits) c.query_all.ensures.survives

pub returns-in-Err-clause-err : goal.returns-in-Err-clause-err
returns-in-Err-clause-err g c clean = queries_quiet (state g.S.Store c.args.conn.now) (state g.S.Store c.query_all.new.self) _ _ c.in-Err.error (c.in-Err.ensures.err clean)

pub returns-in-Err-clause-survives : goal.returns-in-Err-clause-survives
returns-in-Err-clause-survives g c =
    let old = state g.S.Store c.args.conn.now in
    survives_weaker old (state g.S.Store c.query_all.new.self) _ (λ _. old.now.schema ≡ store_schema → ⊥) (λ _ db commits has. shows_no_commit old db has commits) c.query_all.ensures.survives
