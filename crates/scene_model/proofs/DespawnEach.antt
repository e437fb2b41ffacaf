-- Despawning a list of entities: where each can go at its turn none is refused, and so it is with those of a subtree.
use Rattle.std.proofs.Common.{◌≡◌, ℕ, ◌+◌, ◌<◌, ◌≤◌, true, false, List, [], ◌∷◌, length, get_or, drop, refl, ap, sym, ◌∙◌, subst, Option, Some, None, Ok, if◌then◌else◌}
use Rattle.std.specs.Prelude.{Result, Err, IfSome, is_some, ◌==◌}
use Rattle.std.specs.List.{IsDistinct}
use Rattle.std.proofs.lemmas.List.{drop_more, drop_all}
use Rattle.std.proofs.lemmas.Map.Keys.{IsDistinct-tail}
use Rattle.scene_kinds.specs.declared.entity.Entity.{Entity}
use Rattle.scene_kinds.specs.declared.fault.Fault.TheVariants.{HasChildren}
use Rattle.scene_kinds.specs.declared.refusal.Refusal.{Refusal}
use Rattle.scene_kinds.specs.Answers.{Gives, refuse}
use Rattle.scene_kinds.specs.Entity.{is_same}
use Rattle.scene_kinds.specs.Map as map
use Rattle.scene_links.specs.Forest.{holds, children_of, post}
use Rattle.scene_links.specs.Unravels.{Unravels}
use Rattle.scene_links.proofs.LinkLaws.{holds_head, holds_tail, head_once, post_cases, post_distinct, post_unravels}
use Rattle.scene_table.specs.declared.home.Home.{Home}
use Rattle.scene_model.specs.World.{World, home_of, is_live, IsHomeOf}
use Rattle.scene_model.specs.Commands.{with_live, and_then, after_despawn, despawn, despawn_each, despawn_recursive}
use Rattle.scene_model.specs.Valid.{IsValid}
use Rattle.scene_model.specs.Laws.{DespawnRecursiveIsWhole}
use Rattle.scene_table.proofs.Homes.{live_here}
use Rattle.scene_table.proofs.Lives.{lives_removed}
use Rattle.scene_model.proofs.Outcomes.{not_ok, same_world, with_row_of}
use Rattle.scene_model.proofs.Found.{some_home}
use Rattle.scene_model.proofs.DespawnKeeps.{childless, despawn_keeps}

-- the entities of a list can go one after another: each is alive, none stands twice, and none has children left by
-- its turn
pub record CanGo (w : World) (es : List Entity) : Type 0 where
  pub valid : IsValid w
  pub live : (e : Entity) → holds e es ≡ true → is_live w e ≡ true
  pub once : IsDistinct is_same es
  pub bare : Unravels w.children es

live_home : (w : World) (e : Entity) → is_live w e ≡ true → (h : Home) × IsHomeOf w e h
live_home w e l = from (home_of w e) (some_home w e (home_of w e) refl) l
  where
    from : (o : Option Home) → IfSome o (IsHomeOf w e) → is_some o ≡ true → (h : Home) × IsHomeOf w e h
    from None k s = absurd (let b : false ≡ true = s in cc)
    from (Some h) k s = (h, k)

-- a live entity without children goes
goes : (w : World) (e : Entity) (h : Home) → IsHomeOf w e h → children_of w.children e ≡ [] → despawn w e ≡ Ok (tt, after_despawn w h e)
goes w e h k bare =
    ap (λ o. with_live o (λ h row. if is_some (map.get w.children e) then refuse HasChildren else Ok (tt, after_despawn w h e))) k.found
    ∙ ap (λ b. if b then refuse HasChildren else Ok (tt, after_despawn w h e)) (childless w.children e (ap (λ (es : List Entity). length es == 0) bare))

-- the first goes, and the others still can
pub first_goes : (w : World) (e : Entity) (es : List Entity) → CanGo w (e ∷ es) → (v : World) × ((despawn w e ≡ Ok (tt, v)) × CanGo v es)
first_goes w e es c =
    let h = live_home w e (c.live e (holds_head e es)) in
    let went = goes w e h.0 h.1 c.bare.0 in (
      after_despawn w h.0 e,
      (
        went,
        record {
          valid = despawn_keeps w (after_despawn w h.0 e) e c.valid went;
          live = λ x i. lives_removed w.tables h.0 h.1.row x h.1.there (λ s. head_once e es c.once (ap (λ z. holds z es) (sym h.1.same ∙ s) ∙ i)) (c.live x (holds_tail x e es i));
          once = IsDistinct-tail is_same e es c.once;
          bare = c.bare.1;
        },
      ),
    )

-- all go, and leave a valid world
pub all_go : (w : World) (es : List Entity) → CanGo w es → (v : World) × ((despawn_each es w ≡ Ok (tt, v)) × IsValid v)
all_go w [] c = (w, (refl, c.valid))
all_go w (e ∷ es) c =
    let f = first_goes w e es c in
    let r = all_go f.0 es f.1.1 in (r.0, (ap (λ o. and_then o (λ a v. despawn_each es v)) f.1.0 ∙ r.1.0, r.1.1))

-- ---- the subtree of an entity

-- a live entity and those below it can go, each after its descendants
pub subtree_can_go : (w : World) (e : Entity) → IsValid w → is_live w e ≡ true → CanGo w (post w.children e)
subtree_can_go w e v l = record {
  valid = v;
  live = λ x i. post_cases (is_live w x ≡ true) w.children e x v.links.forest i (λ s. ap (is_live w) s ∙ l) (λ p n. (v.links.live p x n).1);
  once = post_distinct w.children e v.links.forest;
  bare = post_unravels w.children e v.links.forest;
}

-- a recursive despawn of a live entity despawns the order from it
pub recursive_each : (w : World) (e : Entity) → is_live w e ≡ true → despawn_recursive w e ≡ despawn_each (post w.children e) w
recursive_each w e l = let h = live_home w e l in ap (λ o. with_live o (λ h row. despawn_each (post w.children e) w)) h.1.found

pub recursive_is_whole : DespawnRecursiveIsWhole
recursive_is_whole w e valid l = let r = all_go w (post w.children e) (subtree_can_go w e valid l) in (r.0, recursive_each w e l ∙ r.1.0)

pub recursive_keeps : (w v : World) (e : Entity) → IsValid w → despawn_recursive w e ≡ Ok (tt, v) → IsValid v
recursive_keeps w v e valid is =
    with_row_of (IsValid v) w e _ (tt, v) is (λ h row at same made.
    let r = all_go w (post w.children e) (subtree_can_go w e valid (live_here w.tables e h row at same)) in
    subst IsValid (same_world tt tt r.0 v (sym r.1.0 ∙ made)).1 r.1.1)

-- ---- a loop over the order

-- between `old` and `now` the first i of the list went, and the others can go
pub record IsUnderWay (old now : World) (es : List Entity) (i : ℕ) : Type 0 where
  pub can : CanGo now (drop i es)
  pub left : despawn_each (drop i es) now ≡ despawn_each es old

-- the next is never refused, and then one more went
pub next_goes : (old now v : World) (es : List Entity) (i : ℕ) (d : Entity) (r : Result (Unit {0}) Refusal) → i < length es → IsUnderWay old now es i → Gives r now v (despawn now (get_or es i d))
    → (r ≡ Ok tt) × IsUnderWay old v es (i + 1)
next_goes old now v es i d r l u g =
    let e = get_or es i d in
    let rest = drop (i + 1) es in
    let split : drop i es ≡ e ∷ rest = drop_more es i d l in
    let f = first_goes now e rest (subst (CanGo now) split u.can) in
    let left : despawn_each rest f.0 ≡ despawn_each es old = sym (ap (λ o. and_then o (λ a v. despawn_each rest v)) f.1.0) ∙ ap (λ xs. despawn_each xs now) (sym split) ∙ u.left in
    given r g f.0 f.1.0 (record { can = f.1.1; left = left })
  where
    given : (r : Result (Unit {0}) Refusal) → Gives r now v (despawn now (get_or es i d)) → (x : World) → despawn now (get_or es i d) ≡ Ok (tt, x) → IsUnderWay old x es (i + 1) → (r ≡ Ok tt) × IsUnderWay old v es (i + 1)
    given (Ok a) k x is next = (refl, subst (λ z. IsUnderWay old z es (i + 1)) (same_world tt a x v (sym is ∙ k)).1 next)
    given (Err y) k x is next = absurd (not_ok _ y (sym k.1 ∙ is))

-- before the first
pub none_went : (w : World) (e : Entity) (es : List Entity) → IsValid w → is_live w e ≡ true → es ≡ post w.children e → IsUnderWay w w es 0
none_went w e es v l is = record { can = subst (CanGo w) (sym is) (subtree_can_go w e v l); left = refl }

-- after the last
pub all_went : (old now : World) (e : Entity) (es : List Entity) (i : ℕ) → is_live old e ≡ true → es ≡ post old.children e → length es ≤ i → IsUnderWay old now es i → despawn_recursive old e ≡ Ok (tt, now)
all_went old now e es i live is l u =
    recursive_each old e live ∙ ap (λ xs. despawn_each xs old) (sym is) ∙ sym u.left ∙ ap (λ xs. despawn_each xs now) (drop_all i es l)
