use Rattle.std.proofs.Common.{rules, ◌≡◌, ◌≢◌, ◌++◌, ◌∷◌, [], ap, ◌∙◌}
use Rattle.scene_lock.specs.Shared.{shared_good, shared_entries}
use Rattle.scene_lock.specs.Steps.{step_of}
use Rattle.scene_lock.proofs.Keeps.{taking}
use Rattle.scene_lock.proofs.Passing.{only-again, after_take}
use Rattle.scene_lock.proofs.Visits.{has_looked, has_taken}
use Rattle.scene_lock.proofs.lock.WordLock.take.Goals as goal

pub compare_exchange-found-requires : goal.compare_exchange-found-requires
compare_exchange-found-requires g c = let k = g.S.Kept in let i = c.pass.invariant in (
  search rules,
  search rules,
  taking (shared_good k.good k.opening) (shared_entries k.entries) k.legal k.session _ _ _ _ g.T.TakeKind.kind _ _ c.requires.turns i.1 i.2 i.0,
)

pub returns-then-found-from : goal.returns-then-found-from
returns-then-found-from g c = let k = g.S.Kept in let p = c.pass.inside in let found = c.compare_exchange-found in
    let miss : found.result ≢ c.args.from = search rules in
    let t = has_looked k.legal k.session c.args.self.now p.seat.me found.new.seat.me p.seat.table_id found.new.seat.table_id p.number c.args.pass
    c.pass.view_is c.requires.lock found.ensures.0 c.pass.invariant.0 (found.ensures.2.1 miss) in
    record { taken = tt; busy = t.0; steps = t.1 }

pub lift-requires-clause-out : goal.lift-requires-clause-out
lift-requires-clause-out g c = let found = c.compare_exchange-found in
    let hit : found.result ≡ c.args.from = search rules in let out = (found.ensures.2.0 hit).1 in (out.0, ap (λ m. m.1) out.1)

pub lift-requires-clause-holding : goal.lift-requires-clause-holding
lift-requires-clause-holding g c = let found = c.compare_exchange-found in
    let hit : found.result ≡ c.args.from = search rules in ap (λ m. m.0.holding) (found.ensures.2.0 hit).1.1

pub lift-requires-clause-alone : goal.lift-requires-clause-alone
lift-requires-clause-alone g c = let k = g.S.Kept in let p = c.pass.inside in let found = c.compare_exchange-found in
    let hit : found.result ≡ c.args.from = search rules in
    let t = after_take (shared_good k.good k.opening) (shared_entries k.entries) k.legal k.session g.T.TakeKind.kind found.result p.seat.me found.new.seat.me p.number _ _
    c.pass.invariant.0 (found.ensures.2.0 hit).1 in
    only-again found.new.seat.me.0.members p.number _ _ t.4

pub returns : goal.returns
returns g c = let k = g.S.Kept in let p = c.pass.inside in let found = c.compare_exchange-found in let lift = c.lift in let kind = g.T.TakeKind.kind in
    let hit : found.result ≡ c.args.from = search rules in
    let t = has_taken k.good k.opening k.entries k.legal k.session c.args.self.now kind found.result p.seat.me found.new.seat.me p.seat.table_id p.number c.args.pass
    lift.result.1 lift.result.0 c.pass.view_is c.requires.lock c.pass.invariant.0 (found.ensures.2.0 hit).1 lift.ensures.state lift.ensures.holder in
    record { taken = t.0; busy = tt; steps = t.1 ∙ ap (λ w. c.args.pass.steps ++ step_of c.args.pass.session kind w 1 ∷ []) hit }
