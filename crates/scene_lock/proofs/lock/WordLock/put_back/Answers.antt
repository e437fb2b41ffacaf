use Rattle.std.proofs.Common.{rules, ap, sym, ◌∙◌, subst}
use Rattle.std.specs.Arc.{arc_value}
use Rattle.scene_lock.specs.Members.{member}
use Rattle.scene_lock.specs.Rule.{PutsHome}
use Rattle.scene_lock.specs.Shared.{shared_good, shared_entries, IsStateOf}
use Rattle.scene_lock.specs.Steps.{Turns}
use Rattle.scene_lock.proofs.Keeps.{putting}
use Rattle.scene_lock.proofs.Visits.{has_put}
use Rattle.scene_lock.proofs.lock.WordLock.put_back.Goals as goal

pub swap-requires : goal.swap-requires
swap-requires g c = let k = g.S.Kept in let p = g.P.PutKind in let s = c.args.state in let x = arc_value s in let h = c.args.holder in let f = c.fill-seat.ensures in
    let good = subst (λ q. IsStateOf k.good k.opening q x) (sym (ap (λ l. l.terms.opening) c.self.view_is)) c.requires.good in (
      f.lock ∙ sym (ap (λ l. l.id) c.self.view_is),
      search rules,
      putting (shared_good k.good k.opening) (shared_entries k.entries) k.legal k.session _ _ _ _ p.kind _ s (member h.session h.seen h.steps)
          (subst (Turns p.kind 1) (sym c.WORD.ensures) p.turns) f.carries f.holds.0 f.pass.1 good
          (subst (λ o. k.legal o (k.entries x)) good.1 (g.met.S.Kept.lawful x good.0)) c.requires.moved,
    )

pub invariant_of-result : goal.invariant_of-result
invariant_of-result g c = let k = g.S.Kept in let p = g.P.PutKind in let f = c.fill-seat in let seat = c.swap.new.seat in
    let home = subst (λ w. PutsHome (shared_entries k.entries) k.legal k.session p.kind w c.args.state f.result.0.me seat.me) c.WORD.ensures
    (c.swap.ensures.2.1 c.args.state f.ensures.carries) in
    let t = has_put k.good k.opening k.entries k.legal k.session c.args.self.now p.kind p.WORD f.result.0.me seat.me seat.table_id f.result.1 c.args.holder c.args.state
    c.requires.lock (c.swap.ensures.0 ∙ f.ensures.lock) f.ensures.holds.1 f.ensures.pass.0 f.ensures.pass.1 home in
    (t.0, t.1, t.2)

pub returns : goal.returns
returns g c = let k = g.S.Kept in let p = g.P.PutKind in let f = c.fill-seat in let seat = c.swap.new.seat in
    let home = subst (λ w. PutsHome (shared_entries k.entries) k.legal k.session p.kind w c.args.state f.result.0.me seat.me) c.WORD.ensures
    (c.swap.ensures.2.1 c.args.state f.ensures.carries) in
    let t = has_put k.good k.opening k.entries k.legal k.session c.args.self.now p.kind p.WORD f.result.0.me seat.me seat.table_id f.result.1 c.args.holder c.args.state
    c.requires.lock (c.swap.ensures.0 ∙ f.ensures.lock) f.ensures.holds.1 f.ensures.pass.0 f.ensures.pass.1 home in
    record { pass = t.3; legal = t.4 }
