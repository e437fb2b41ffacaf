use Rattle.std.proofs.Common.{false, rules, ◌≡◌, ◌++◌, ◌∷◌, [], ap, sym, refl, ◌∙◌, subst, inl, inr}
use Rattle.std.specs.List.{All}
use Rattle.std.proofs.lemmas.List.Elements.{All-push}
use Rattle.scene_lock.specs.History.{Continues}
use Rattle.scene_lock.specs.Pass.{IsPassOf, PassView, all_seen}
use Rattle.scene_lock.specs.declared.knowledge.Member.{Member}
use Rattle.scene_lock.specs.Members.{member, made_by, IsMember, all_seeing, seen_of, first_member, others_seat, seeing}
use Rattle.scene_lock.specs.Shared.{shared_good, shared_entries}
use Rattle.scene_lock.proofs.Keeps.{joining, looking, parting}
use Rattle.scene_lock.proofs.Meetings.{All-last, all_seen-push, others_again}
use Rattle.scene_lock.proofs.lock.WordLock.+look_with.Goals as goal

pub load-requires : goal.load-requires
load-requires g t c = let k = g.S.Kept in
    (search rules, search rules, looking (shared_good k.good k.opening) (shared_entries k.entries) k.legal k.session _ _ _ c.args.seat.me c.requires.free.1)

pub join_seat-requires : goal.join_seat-requires
join_seat-requires g t c = let k = g.S.Kept in
    let here = sym (ap (λ x. x.id) c.self.view_is) in
    let mine = All-last (IsPassOf c.args.self.now) c.pop.new.self.items c.in-Some.pass (subst (All (IsPassOf c.args.self.now)) c.in-Some.ensures.items c.requires.passes) in (
      ap (λ x. x.id) c.pass.view_is ∙ (mine.0 ∙ here),
      c.requires.lock ∙ here,
      c.requires.free.0,
      search rules,
      joining (shared_good k.good k.opening) (shared_entries k.entries) k.legal k.session _ _ _ _ _
          c.pass.invariant.2 c.requires.free.1 ((ap (λ x. x.terms) c.pass.view_is ∙ mine.1) ∙ sym c.requires.free.2),
    )

pub split_seat-others-requires : goal.split_seat-others-requires
split_seat-others-requires g t c = let k = g.S.Kept in
    let joined : c.join_seat.new.seat.me.0.holding ≡ false = ap (λ m. m.0.holding) c.join_seat.ensures.2 in (
      search rules,
      search rules,
      parting (shared_good k.good k.opening) (shared_entries k.entries) k.legal k.session _ _ c.look_with-both.result.0.me.0
          (ap (λ m. m.0.holding) c.look_with-both.ensures.seen.1 ∙ joined),
    )

pub returns-clause-seen : goal.returns-clause-seen
returns-clause-seen g t c = let k = g.S.Kept in
    let p = c.pass.inside in
    let found = c.look_with-both.ensures.seen in let h = found.0 in
    let mine = All-last (IsPassOf c.args.self.now) c.pop.new.self.items c.in-Some.pass (subst (All (IsPassOf c.args.self.now)) c.in-Some.ensures.items c.requires.passes) in
    let named = (ap (λ x. x.terms) c.pass.view_is ∙ mine.1) ∙ sym c.requires.free.2 in
    let both : c.join_seat.new.seat.me.0.members ≡ member p.number (seen_of p.seat.me.0.members) (made_by p.seat.me.0.members) ∷ c.args.seat.me.0.members =
    ap (λ m. m.0.members) c.join_seat.ensures.2 ∙ (λ i. c.pass.invariant.0 i ++ c.args.seat.me.0.members) in
    let me : Member g.row.S-Entry.Denot = member p.number (seen_of p.seat.me.0.members) (made_by p.seat.me.0.members) in
    let own = found.2 me (subst (λ l. IsMember l me) (sym both) (inl refl)) in
    let joined = ap (λ m. m.0) c.join_seat.ensures.2 in
    let after = c.split_seat-others.new.seat in
    let seen : seen_of after.me.0.members ≡ h =
    ap (λ m. seen_of m.0.members) c.split_seat-others.ensures.2
    ∙ ap (λ m. seen_of (first_member m.0.members)) found.1
    ∙ ap (λ l. seen_of (first_member (all_seeing h l))) both in
    let made : made_by after.me.0.members ≡ made_by p.seat.me.0.members =
    ap (λ m. made_by m.0.members) c.split_seat-others.ensures.2
    ∙ ap (λ m. made_by (first_member m.0.members)) found.1
    ∙ ap (λ l. made_by (first_member (all_seeing h l))) both in
    let view : PassView g.row.S-Entry.Denot g.row.S-Opening.Denot = record { id = p.seat.table_id; terms = p.seat.me.0.terms; session = p.number; seen = seen_of p.seat.me.0.members; steps = made_by p.seat.me.0.members } in
    let pushed : PassView g.row.S-Entry.Denot g.row.S-Opening.Denot = record { id = after.table_id; terms = after.me.0.terms; session = p.number; seen = seen_of after.me.0.members; steps = made_by after.me.0.members } in
    let id = c.split_seat-others.ensures.0 ∙ (c.look_with-both.ensures.lock ∙ sym (ap (λ x. x.id) c.pass.view_is ∙ mine.0)) in
    let terms = ap (λ m. m.0.terms) c.split_seat-others.ensures.2 ∙ (ap (λ m. m.0.terms) found.1 ∙ ap (λ m. m.0.terms) c.join_seat.ensures.2) in
    let again : pushed ≡ record view { seen = h } = (λ i. record { id = id i; terms = terms i; session = p.number; seen = seen i; steps = made i }) in
    let is : pushed ≡ record c.in-Some.pass { seen = h } = again ∙ ap (λ (v : PassView g.row.S-Entry.Denot g.row.S-Opening.Denot). record v { seen = h }) c.pass.view_is in (
      h,
      c.split_seat-others.ensures.4 ∙ (λ i. (others_seat (found.1 i).0, [])) ∙ (λ i. (others_seat (seeing h (joined i)), []))
          ∙ (λ i. (others_again h p.seat.me.0 c.args.seat.me.0 p.number (seen_of p.seat.me.0.members) (made_by p.seat.me.0.members) c.pass.invariant.0 named c.requires.free.1 i, [])),
      (λ q i. let told = found.2 q (subst (λ l. IsMember l q) (sym both) (inr i)) in
          (told.0, λ ts is. told.1 ts (ap (λ k. k.terms) joined ∙ (named ∙ is)))),
      c.push_reserved.ensures.items ∙ (λ i. found.3 i ++ is i ∷ []) ∙ sym (all_seen-push h c.pop.new.self.items c.in-Some.pass) ∙ ap (all_seen h) (sym c.in-Some.ensures.items),
      subst (All (λ q. Continues k.session q.session q.seen h)) (sym c.in-Some.ensures.items)
          (All-push (λ q. Continues k.session q.session q.seen h) c.pop.new.self.items c.in-Some.pass found.4
          (subst (λ (v : PassView g.row.S-Entry.Denot g.row.S-Opening.Denot). Continues k.session v.session v.seen h) c.pass.view_is own.0)),
    )
