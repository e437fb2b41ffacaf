-- A link that is set keeps a valid world valid and comes back.
use Rattle.std.proofs.Common.{◌≡◌, ℕ, ◌≤◌, true, false, length, ap, subst, sym, ◌∙◌, arith, Option, Some, None}
use Rattle.std.proofs.lemmas.Bool.{false_from_ne_true}
use Rattle.scene_kinds.specs.declared.entity.Entity.{Entity}
use Rattle.scene_kinds.specs.Entity.{is_same}
use Rattle.scene_links.specs.Forest.{Forest, IsForest, ancestors, children_of, parent_of, cut, link_in, with_link}
use Rattle.scene_links.proofs.LinkLaws.{length_up, parent_holds, same_is, link_restored, with_link-with_link}
use Rattle.scene_model.specs.World.{World, is_live}
use Rattle.scene_model.specs.Commands.{with_children}
use Rattle.scene_model.specs.Valid.{IsValid}
use Rattle.scene_model.specs.Raw.{set_link}
use Rattle.scene_model.specs.RawLaws.{LinksComeBack}
use Rattle.scene_model.proofs.CanParts.{CanHaveLink, CanSetLink, set_link as link_decides, tested}
use Rattle.scene_model.proofs.LinkKeeps.{links_valid}
use Rattle.scene_model.proofs.Options.{in_some, if_some}
use Rattle.scene_model.proofs.GivenLinks.{not_above_parent, still_not_above, parent_kept, link_given, linked_parent, linked_place, with_link_forest, linked_with_link}

set_link_keeps : (w : World) (e : Entity) (before after : Option (Entity × ℕ)) → IsValid w → CanSetLink w e before after → IsValid (set_link w e after)
set_link_keeps w e before after v can =
    links_valid w (with_link w.children e after) v
    (linked_with_link (λ x. is_live w x ≡ true) w.children e after v.links.forest v.links.live (λ l s. (can.live, (in_some (CanHaveLink w e) after l can.good s).room.live)))
    (with_link_forest w.children e after v.links.forest (λ l s. let g = in_some (CanHaveLink w e) after l can.good s in (g.other, g.not_above)))

-- the link that an entity had is one that it may get after it was given another one
may_return : (w : World) (e : Entity) (before after : Option (Entity × ℕ)) (l : Entity × ℕ) → IsValid w → CanSetLink w e before after → link_in w.children e ≡ Some l → CanHaveLink (set_link w e after) e l
may_return w e before after l v can is =
    let f = w.children in
    let g = with_link f e after in
    let forest = v.links.forest in
    let kept = (set_link_keeps w e before after v can).links.forest in
    let parent = (linked_parent f e l is).0 in
    let above = not_above_parent f e l.0 forest parent in
    let other : is_same e l.0 ≡ false = false_from_ne_true (is_same e l.0) (λ t. not_own f e l.0 forest parent t) in
    let d = forest.ends l.0 in
    record {
      room = record {
        live = (v.links.live l.0 e (parent_holds f e l.0 parent)).0;
        within = subst (λ h. l.1 ≤ length (children_of h l.0)) (sym (cut_again f e after forest)) (linked_place f e l forest is);
      };
      other = other;
      not_above = still_not_above f g e forest kept (λ x ne. parent_kept f e after forest x ne) d.0 l.0 other d.1 above;
    }
  where
    cut_again : (f : Forest) (e : Entity) (link : Option (Entity × ℕ)) → IsForest f → cut (with_link f e link) e ≡ cut f e
    cut_again f e link v = with_link-with_link f e link None v

    not_own : (f : Forest) (e p : Entity) → IsForest f → parent_of f e ≡ Some p → is_same e p ≡ true → ⊥
    not_own f e p v h t =
        let less = length_up f e p v (sym h) in
        let same : length (ancestors f e) ≡ length (ancestors f p) = ap (λ x. length (ancestors f x)) (same_is e p t) in omega (arith, less, same)

set_link_can_come_back : (w : World) (e : Entity) (before after : Option (Entity × ℕ)) → IsValid w → CanSetLink w e before after → CanSetLink (set_link w e after) e after before
set_link_can_come_back w e before after v can = record {
  live = can.live;
  now = link_given w.children e after v.links.forest (if_some (λ l. l.1 ≤ length (children_of (cut w.children e) l.0)) after (λ l s. (in_some (CanHaveLink w e) after l can.good s).room.within));
  good = if_some (CanHaveLink (set_link w e after) e) before (λ l s. may_return w e before after l v can (can.now ∙ s));
}

set_link_comes_back : (w : World) (e : Entity) (before after : Option (Entity × ℕ)) → IsValid w → CanSetLink w e before after → set_link (set_link w e after) e before ≡ w
set_link_comes_back w e before after v can =
    ap (with_children w) (ap (with_link (with_link w.children e after) e) (sym can.now) ∙ link_restored w.children e after v.links.forest)

pub links_come_back : LinksComeBack
links_come_back e before after = tested (λ w. link_decides w e before after) (λ w. link_decides w e after before) (record {
  keeps = λ w v can. set_link_keeps w e before after v can;
  can_come_back = λ w v can. set_link_can_come_back w e before after v can;
  comes_back = λ w v can. set_link_comes_back w e before after v can;
})
