use Rattle.std.proofs.Common.{rules, ◌≡◌, ◌++◌, ◌∷◌, [], ap, sym, refl, ◌∙◌, subst, inl}
use Rattle.std.specs.List.{All}
use Rattle.std.proofs.lemmas.List.Elements.{All-push}
use Rattle.scene_lock.specs.History.{Continues}
use Rattle.scene_lock.specs.Pass.{IsPassOf, PassView, all_seen}
use Rattle.scene_lock.specs.declared.knowledge.Member.{Member}
use Rattle.scene_lock.specs.Members.{member, made_by, IsMember, all_seeing, seen_of}
use Rattle.scene_lock.proofs.Meetings.{All-front, All-last, all_seen-push, all_seen-each, have_met}
use Rattle.scene_lock.proofs.lock.WordLock.meet_all.Goals as goal

pub returns : goal.returns
returns g c = let k = g.S.Kept in
    let p = c.pass.inside in
    let found = c.look_with-seat.ensures.seen in let h = found.0 in let front = c.pop.new.self.items in
    let mine = All-last (IsPassOf c.args.self.now) front c.in-Some.pass (subst (All (IsPassOf c.args.self.now)) c.in-Some.ensures.items c.requires) in
    let me : Member g.row.S-Entry.Denot = member p.number (seen_of p.seat.me.0.members) (made_by p.seat.me.0.members) in
    let own = found.2 me (subst (λ l. IsMember l me) (sym c.pass.invariant.0) (inl refl)) in
    let named = ap (λ x. x.terms) c.pass.view_is ∙ mine.1 in
    let after = c.look_with-seat.result.0 in
    let view : PassView g.row.S-Entry.Denot g.row.S-Opening.Denot = record { id = p.seat.table_id; terms = p.seat.me.0.terms; session = p.number; seen = seen_of p.seat.me.0.members; steps = made_by p.seat.me.0.members } in
    let pushed : PassView g.row.S-Entry.Denot g.row.S-Opening.Denot = record { id = after.table_id; terms = after.me.0.terms; session = p.number; seen = seen_of after.me.0.members; steps = made_by after.me.0.members } in
    let id = c.look_with-seat.ensures.lock ∙ sym (ap (λ x. x.id) c.pass.view_is ∙ mine.0) in
    let members = ap (λ m. m.0.members) found.1 in
    let whole : seen_of after.me.0.members ≡ h = ap seen_of members ∙ (λ i. seen_of (all_seeing h (c.pass.invariant.0 i))) in
    let made : made_by after.me.0.members ≡ made_by p.seat.me.0.members = ap made_by members ∙ (λ i. made_by (all_seeing h (c.pass.invariant.0 i))) in
    let again : pushed ≡ record view { seen = h } = (λ i. record { id = id i; terms = (found.1 i).0.terms; session = p.number; seen = whole i; steps = made i }) in
    let is : pushed ≡ record c.in-Some.pass { seen = h } = again ∙ ap (λ (v : PassView g.row.S-Entry.Denot g.row.S-Opening.Denot). record v { seen = h }) c.pass.view_is in
    let all : c.push_reserved.new.self.items ≡ all_seen h c.args.passes.items =
    c.push_reserved.ensures.items ∙ (λ i. found.3 i ++ is i ∷ []) ∙ sym (all_seen-push h front c.in-Some.pass) ∙ ap (all_seen h) (sym c.in-Some.ensures.items) in record {
      met = have_met k.legal k.session c.args.self.now h c.args.passes.items c.push_reserved.new.self.items c.requires
          (subst (All (λ q. Continues k.session q.session q.seen h)) (sym c.in-Some.ensures.items)
          (All-push (λ q. Continues k.session q.session q.seen h) front c.in-Some.pass found.4
          (subst (λ (v : PassView g.row.S-Entry.Denot g.row.S-Opening.Denot). Continues k.session v.session v.seen h) c.pass.view_is own.0)))
          (own.1 c.args.self.now.terms named)
          all;
      each = subst (All (IsPassOf c.args.self.now)) (sym all) (all_seen-each c.args.self.now h c.args.passes.items c.requires);
      room = search rules;
    }

pub returns-in_default-clause-met : goal.returns-in_default-clause-met
returns-in_default-clause-met g c = ([], search rules, search rules)

pub look_with-seat-requires-clause-passes : goal.look_with-seat-requires-clause-passes
look_with-seat-requires-clause-passes g c = All-front (IsPassOf c.args.self.now) c.pop.new.self.items c.in-Some.pass
    (subst (All (IsPassOf c.args.self.now)) c.in-Some.ensures.items c.requires)
