use Rattle.std.proofs.Common.{◌≡◌, Some, ap, sym, ◌∙◌, subst, get_or, ⊎_elim}
use Rattle.std.specs.Arc.{arc_value}
use mathlib.Core.Option.{some-injective}
use lib.ListN.{get_elem?}
use Rattle.scene_lock.specs.History.{Continues, IsLegal}
use Rattle.scene_lock.specs.Members.{member, seen_of, made_by}
use Rattle.scene_lock.specs.Shared.{IsStateOf}
use Rattle.scene_lock.proofs.Passing.{only, first_word}
use Rattle.scene_lock.proofs.Walks.{free-not_out}
use Rattle.scene_lock.proofs.lock.WordLock.take_apart.Goals as goal

pub returns-clause-home : goal.returns-clause-home
returns-clause-home g c = λ free. let k = g.S.Kept in let lock = c.args.self in let pass = c.args.pass in let p = c.pass.inside in
    let f = c.close_with-closed.ensures.values.2 in let s = f.0 in let r = f.1.0 in
    let word : get_or s.words 0 0 ≡ c.word-word.result = first_word s.words _ (ap (λ l. get_elem? l 0) f.2 ∙ c.word-word.ensures) in
    ⊎_elim
    (λ home. let x = home.1.state in
    let slot = some-injective (Some x) c.take-slot.result (sym (f.4 0 (Some x) home.1.there) ∙ c.take-slot.ensures.value) in
    let fact = (r.seats p.seat.id p.seat.me.0 f.1.1).each (member p.number (seen_of p.seat.me.0.members) (made_by p.seat.me.0.members)) (only p.seat.me.0.members p.number c.pass.invariant.0) in (
      x,
      sym slot,
      subst (λ l. IsStateOf k.good k.opening l.terms.opening (arc_value x)) c.self.view_is home.1.is_good,
      subst (λ l. Continues k.session pass.session pass.seen l) (sym home.1.kept) (subst (λ v. Continues k.session v.session v.seen r.whole) c.pass.view_is (fact.early, sym fact.own)),
      subst (λ l. IsLegal k.legal k.session lock.terms l) (sym home.1.kept) (subst (λ l. IsLegal k.legal k.session l.terms r.whole) c.self.view_is r.lawful),
    ))
    (λ out. absurd (free-not_out c.word-word.result free (sym word ∙ out.0))) r.placed
