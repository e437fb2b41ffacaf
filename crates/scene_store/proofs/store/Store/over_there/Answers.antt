use Rattle.sqlite.specs.Held.{state}
use Rattle.scene_store.proofs.StoreLemmas.{there_made, there_known, there_clean}
use Rattle.scene_store.proofs.store.Store.over_there.Goals as goal

pub returns-clause-made : goal.returns-clause-made
returns-clause-made g c none idle = there_made _ c.over_store.result (state g.S.Store c.args.conn).now.schema c.over_store.ensures.known none

pub returns-clause-known : goal.returns-clause-known
returns-clause-known g c = there_known _ _ c.over_store.result c.over_store.ensures.known

pub returns-clause-clean : goal.returns-clause-clean
returns-clause-clean g c = there_clean g.S.Store c.args.conn c.over_store.result c.over_store.ensures.known c.over_store.ensures.there
