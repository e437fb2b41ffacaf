use Rattle.std.proofs.Common.{rules, ◌≡◌, ◌++◌, ap, sym, refl, ◌∙◌, subst, inl, inr}
use Rattle.scene_lock.specs.History.{Continues, IsLegal}
use Rattle.scene_lock.specs.Pass.{IsPassOf, Follows, PassView}
use Rattle.scene_lock.specs.declared.knowledge.Member.{Member}
use Rattle.scene_lock.specs.Members.{member, made_by, IsMember, all_seeing, seen_of, first_member, other_members}
use Rattle.scene_lock.specs.Shared.{shared_good, shared_entries}
use Rattle.scene_lock.proofs.Keeps.{joining, looking, parting}
use Rattle.scene_lock.proofs.Passing.{follows_seen}
use Rattle.scene_lock.proofs.lock.WordLock.meet.Goals as goal

pub join_seat-requires : goal.join_seat-requires
join_seat-requires g c = let k = g.S.Kept in
    let here = sym (ap (λ x. x.id) c.self.view_is) in (
      ap (λ x. x.id) c.one.view_is ∙ (c.requires.0.0 ∙ here),
      ap (λ x. x.id) c.other.view_is ∙ (c.requires.1.0 ∙ here),
      c.other.invariant.1,
      search rules,
      joining (shared_good k.good k.opening) (shared_entries k.entries) k.legal k.session _ _ _ _ _
          c.one.invariant.2 c.other.invariant.2 ((ap (λ x. x.terms) c.one.view_is ∙ c.requires.0.1) ∙ sym (ap (λ x. x.terms) c.other.view_is ∙ c.requires.1.1)),
    )

pub load-requires : goal.load-requires
load-requires g c = let k = g.S.Kept in
    (search rules, search rules, looking (shared_good k.good k.opening) (shared_entries k.entries) k.legal k.session _ _ _ c.join_seat.new.seat.me (ap (λ m. m.0.holding) c.join_seat.ensures.2))

pub split_seat-second-requires : goal.split_seat-second-requires
split_seat-second-requires g c = let k = g.S.Kept in (
  search rules,
  search rules,
  parting (shared_good k.good k.opening) (shared_entries k.entries) k.legal k.session _ _ c.load.new.seat.me.0
      (ap (λ m. m.0.holding) c.load.ensures.2.1 ∙ ap (λ m. m.0.holding) c.join_seat.ensures.2),
)

pub returns-clause-one : goal.returns-clause-one
returns-clause-one g c = let k = g.S.Kept in let lock = c.args.self.now in let p = c.one.inside in let q = c.other.inside in let after = c.split_seat-second.new.seat in
    let t = c.load.ensures.2 in let h = t.0 in
    let both = ap (λ m. m.0.members) c.join_seat.ensures.2 ∙ (λ i. c.one.invariant.0 i ++ c.other.invariant.0 i) in
    let all = ap (λ m. m.0.members) t.1 ∙ ap (all_seeing h) both in
    let ms = ap (λ m. m.0.members) c.split_seat-second.ensures.2 ∙ ap first_member all in
    let seen : h ≡ seen_of after.me.0.members = sym (ap seen_of ms) in
    let me : Member g.row.S-Entry.Denot = member p.number (seen_of p.seat.me.0.members) (made_by p.seat.me.0.members) in
    let told = t.2 me (subst (λ l. IsMember l me) (sym both) (inl refl)) in
    let view : PassView g.row.S-Entry.Denot g.row.S-Opening.Denot = record { id = p.seat.table_id; terms = p.seat.me.0.terms; session = p.number; seen = seen_of p.seat.me.0.members; steps = made_by p.seat.me.0.members } in
    let joined = ap (λ m. m.0.terms) c.join_seat.ensures.2 in
    let terms = ap (λ m. m.0.terms) c.split_seat-second.ensures.2 ∙ (ap (λ m. m.0.terms) t.1 ∙ joined) in
    subst (λ v. Follows k.legal k.session lock v (record { id = after.table_id; terms = after.me.0.terms; session = p.number; seen = seen_of after.me.0.members; steps = made_by after.me.0.members })) c.one.view_is
    (follows_seen k.legal k.session lock view after.table_id after.me.0.terms (seen_of after.me.0.members) (made_by after.me.0.members) (subst (IsPassOf lock) (sym c.one.view_is) c.requires.0)
    (c.split_seat-second.ensures.0 ∙ (c.load.ensures.0 ∙ c.join_seat.ensures.0)) terms (subst (λ l. Continues k.session p.number (seen_of p.seat.me.0.members) l) seen told.0)
    (λ ts is. subst (λ l. IsLegal k.legal k.session ts l) seen (told.1 ts (joined ∙ is))))

pub returns-clause-other : goal.returns-clause-other
returns-clause-other g c = let k = g.S.Kept in let lock = c.args.self.now in let p = c.one.inside in let q = c.other.inside in let after = c.split_seat-second.result in
    let t = c.load.ensures.2 in let h = t.0 in
    let both = ap (λ m. m.0.members) c.join_seat.ensures.2 ∙ (λ i. c.one.invariant.0 i ++ c.other.invariant.0 i) in
    let all = ap (λ m. m.0.members) t.1 ∙ ap (all_seeing h) both in
    let ms = ap (λ m. m.0.members) c.split_seat-second.ensures.4 ∙ ap other_members all in
    let seen : h ≡ seen_of after.me.0.members = sym (ap seen_of ms) in
    let me : Member g.row.S-Entry.Denot = member q.number (seen_of q.seat.me.0.members) (made_by q.seat.me.0.members) in
    let told = t.2 me (subst (λ l. IsMember l me) (sym both) (inr (inl refl))) in
    let view : PassView g.row.S-Entry.Denot g.row.S-Opening.Denot = record { id = q.seat.table_id; terms = q.seat.me.0.terms; session = q.number; seen = seen_of q.seat.me.0.members; steps = made_by q.seat.me.0.members } in
    let named = (ap (λ x. x.terms) c.one.view_is ∙ c.requires.0.1) ∙ sym (ap (λ x. x.terms) c.other.view_is ∙ c.requires.1.1) in
    let joined = ap (λ m. m.0.terms) c.join_seat.ensures.2 ∙ named in
    let terms = ap (λ m. m.0.terms) c.split_seat-second.ensures.4 ∙ (ap (λ m. m.0.terms) t.1 ∙ joined) in
    let here = sym (ap (λ x. x.id) c.self.view_is) in
    let id = c.split_seat-second.ensures.3 ∙ (c.load.ensures.0 ∙ (c.join_seat.ensures.0 ∙ (ap (λ x. x.id) c.one.view_is ∙ (c.requires.0.0 ∙ sym (ap (λ x. x.id) c.other.view_is ∙ c.requires.1.0))))) in
    subst (λ v. Follows k.legal k.session lock v (record { id = after.table_id; terms = after.me.0.terms; session = q.number; seen = seen_of after.me.0.members; steps = made_by after.me.0.members })) c.other.view_is
    (follows_seen k.legal k.session lock view after.table_id after.me.0.terms (seen_of after.me.0.members) (made_by after.me.0.members) (subst (IsPassOf lock) (sym c.other.view_is) c.requires.1)
    id terms (subst (λ l. Continues k.session q.number (seen_of q.seat.me.0.members) l) seen told.0)
    (λ ts is. subst (λ l. IsLegal k.legal k.session ts l) seen (told.1 ts (joined ∙ is))))

pub returns-clause-same : goal.returns-clause-same
returns-clause-same g c =
    let t = c.load.ensures.2 in
    let both = ap (λ m. m.0.members) c.join_seat.ensures.2 ∙ (λ i. c.one.invariant.0 i ++ c.other.invariant.0 i) in
    let all = ap (λ m. m.0.members) t.1 ∙ ap (all_seeing t.0) both in
    let first = ap (λ m. m.0.members) c.split_seat-second.ensures.2 ∙ ap first_member all in
    let second = ap (λ m. m.0.members) c.split_seat-second.ensures.4 ∙ ap other_members all in
    ap seen_of second ∙ sym (ap seen_of first)

pub returns-clause-steps : goal.returns-clause-steps
returns-clause-steps g c =
    let t = c.load.ensures.2 in
    let both = ap (λ m. m.0.members) c.join_seat.ensures.2 ∙ (λ i. c.one.invariant.0 i ++ c.other.invariant.0 i) in
    let all = ap (λ m. m.0.members) t.1 ∙ ap (all_seeing t.0) both in
    let first = ap (λ m. m.0.members) c.split_seat-second.ensures.2 ∙ ap first_member all in
    let second = ap (λ m. m.0.members) c.split_seat-second.ensures.4 ∙ ap other_members all in
    (ap made_by first ∙ ap (λ v. v.steps) c.one.view_is, ap made_by second ∙ ap (λ v. v.steps) c.other.view_is)
