-- A forest in which an entity is given another link: who is above whom, whose link is which, and that it stays a
-- forest.
use Rattle.std.proofs.Common.{◌≡◌, ℕ, zero, suc, ◌<◌, ◌≤◌, true, false, cond, length, refl, ap, subst, sym, ◌∙◌, arith, Option, Some, None}
use Rattle.std.specs.Prelude.{IfSome, option_map}
use Rattle.std.proofs.lemmas.Bool.{or_parts, or_from, false_from_ne_true}
use Rattle.scene_kinds.specs.declared.entity.Entity.{Entity}
use Rattle.scene_kinds.specs.Entity.{entity_cmp_total, is_same}
use Rattle.scene_kinds.proofs.Lists.{list_at_same}
use Rattle.scene_links.specs.Forest.{Forest, IsForest, AllLinked, Ends, holds, place_among, put_at, ancestors, children_of, parent_of, cut, joined_at, link_in, with_link}
use Rattle.scene_links.proofs.LinkLaws.{held_nowhere, length_up, cut_forest, children-cut, linked-cut, parent-cut, parent_gone, apart_of, holds_cases, none_holds, none_or, same_self, adds_at, joined_at_forest, linked-added, parent-joined_at, above-cut, place-put_at, place_within-without, ancestors_step, ancestors_none}

-- ---- walks up

-- who is above an entity has less above it
above_shorter : (f : Forest) → IsForest f → (n : ℕ) (x c : Entity) → Ends n f x → holds c (ancestors f x) ≡ true → length (ancestors f c) < length (ancestors f x)
above_shorter f v zero x c a h = absurd (let k : false ≡ true = sym (ap (holds c) (ancestors_none f x a)) ∙ h in cc)
above_shorter f v (suc n) x c a h =
    let step = length_up f x a.0 v (sym a.1.0) in
    holds_cases (length (ancestors f c) < length (ancestors f x)) c a.0 (ancestors f a.0) (sym (ap (holds c) (ancestors_step f x a.0 v a.1.0)) ∙ h)
    (λ s. subst (λ z. length (ancestors f z) < length (ancestors f x)) (sym s) step)
    (λ i. let more = above_shorter f v n a.0 c a.1.1 i in omega (arith, more, step))

-- nobody is above its own parent
pub not_above_parent : (f : Forest) (e p : Entity) → IsForest f → parent_of f e ≡ Some p → holds e (ancestors f p) ≡ false
not_above_parent f e p v h = false_from_ne_true (holds e (ancestors f p)) (λ t.
    let d = v.ends p in
    let less = above_shorter f v d.0 p e d.1 t in
    let more = length_up f e p v (sym h) in omega (arith, less, more))

-- who isn't above an entity isn't above it after it got another parent
pub still_not_above : (f g : Forest) (c : Entity) → IsForest f → IsForest g → ((x : Entity) → is_same c x ≡ false → parent_of g x ≡ parent_of f x)
    → (n : ℕ) (x : Entity) → is_same c x ≡ false → Ends n f x → holds c (ancestors f x) ≡ false → holds c (ancestors g x) ≡ false
still_not_above f g c v u alike zero x ne a h = held_nowhere g x c (sym (alike x ne ∙ a))
still_not_above f g c v u alike (suc n) x ne a h =
    let parts = or_parts (is_same c a.0) (holds c (ancestors f a.0)) (sym (ap (holds c) (ancestors_step f x a.0 v a.1.0)) ∙ h) in
    ap (holds c) (ancestors_step g x a.0 u (alike x ne ∙ a.1.0))
    ∙ or_from (is_same c a.0) (holds c (ancestors g a.0)) parts.0 (still_not_above f g c v u alike n a.0 parts.0 a.1.1 parts.1)

-- ---- the forest with a link

-- another entity keeps its parent
pub parent_kept : (f : Forest) (e : Entity) (link : Option (Entity × ℕ)) → IsForest f → (x : Entity) → is_same e x ≡ false → parent_of (with_link f e link) x ≡ parent_of f x
parent_kept f e None v x ne = parent-cut f e v x ∙ ap (λ b. cond b None (parent_of f x)) ne
parent_kept f e (Some l) v x ne =
    parent-joined_at (cut f e) e l.0 l.1 (cut_forest f e v) (parent_gone f e v) x ∙ ap (λ b. cond b (Some l.0) (parent_of (cut f e) x)) ne
    ∙ parent-cut f e v x ∙ ap (λ b. cond b None (parent_of f x)) ne

-- an entity has the link that it was given, where that has a place
pub link_given : (f : Forest) (e : Entity) (link : Option (Entity × ℕ)) → IsForest f → IfSome link (λ l. l.1 ≤ length (children_of (cut f e) l.0)) → link_in (with_link f e link) e ≡ link
link_given f e None v fits = ap (option_map (λ p. (p, place_among e (children_of (cut f e) p)))) (parent_gone f e v)
link_given f e (Some l) v fits =
    let g = cut f e in
    let free = parent_gone f e v in
    let parent : parent_of (joined_at g e l.0 l.1) e ≡ Some l.0 = parent-joined_at g e l.0 l.1 (cut_forest f e v) free e ∙ ap (λ b. cond b (Some l.0) (parent_of g e)) (same_self e) in
    let place : place_among e (children_of (joined_at g e l.0 l.1) l.0) ≡ l.1 =
    ap (place_among e) (list_at_same entity_cmp_total g l.0 (put_at (children_of g l.0) l.1 e)) ∙ place-put_at e (children_of g l.0) l.1 (none_holds g e l.0 (cut_forest f e v) free) fits in
    ap (option_map (λ p. (p, place_among e (children_of (joined_at g e l.0 l.1) p)))) parent ∙ (λ i. Some (l.0, place i))

-- the parent of the link that an entity has
pub linked_parent : (f : Forest) (e : Entity) (l : Entity × ℕ) → link_in f e ≡ Some l → (parent_of f e ≡ Some l.0) × (place_among e (children_of f l.0) ≡ l.1)
linked_parent f e l h = none_or (parent_of f e) ((parent_of f e ≡ Some l.0) × (place_among e (children_of f l.0) ≡ l.1))
    (λ n. let k : None ≡ Some l = sym (ap (option_map (λ p. (p, place_among e (children_of f p)))) n) ∙ h in absurd cc)
    (λ p n.
    let k : ◌≡◌ {A = Option (Entity × ℕ)} (Some (p, place_among e (children_of f p))) (Some l) = sym (ap (option_map (λ p. (p, place_among e (children_of f p)))) n) ∙ h in
    let both : (p, place_among e (children_of f p)) ≡ l = cc in
    let same : p ≡ l.0 = ap (λ (x : Entity × ℕ). x.0) both in
    (n ∙ ap (λ x. Some x) same, ap (λ x. place_among e (children_of f x)) (sym same) ∙ ap (λ (x : Entity × ℕ). x.1) both))

-- and its place is one in the list without the entity
pub linked_place : (f : Forest) (e : Entity) (l : Entity × ℕ) → IsForest f → link_in f e ≡ Some l → l.1 ≤ length (children_of (cut f e) l.0)
linked_place f e l v h =
    let place = (linked_parent f e l h).1 in
    subst (λ n. n ≤ length (children_of (cut f e) l.0)) place
    (subst (λ xs. place_among e (children_of f l.0) ≤ length xs) (sym (children-cut f e v l.0)) (place_within-without e (children_of f l.0)))

-- a forest with a link that makes no cycle is one
pub with_link_forest : (f : Forest) (e : Entity) (link : Option (Entity × ℕ)) → IsForest f → ((l : Entity × ℕ) → link ≡ Some l → (is_same e l.0 ≡ false) × (holds e (ancestors f l.0) ≡ false)) → IsForest (with_link f e link)
with_link_forest f e None v may = cut_forest f e v
with_link_forest f e (Some l) v may =
    let o = may l refl in
    joined_at_forest (cut f e) e l.0 l.1 (cut_forest f e v) (parent_gone f e v) (λ s. apart_of e l.0 o.0 (sym s)) (above-cut f e l.0 v o.0 o.1)

-- whom all met who took part, all meet with the link of an entity and a parent who meet it
pub linked_with_link : (P : Entity → Type 0) (f : Forest) (e : Entity) (link : Option (Entity × ℕ)) → IsForest f → AllLinked P f → ((l : Entity × ℕ) → link ≡ Some l → P e × P l.0) → AllLinked P (with_link f e link)
linked_with_link P f e None v all more = linked-cut P f e all
linked_with_link P f e (Some l) v all more =
    let m = more l refl in
    let g = cut f e in
    linked-added g l.0 e (put_at (children_of g l.0) l.1 e) P (adds_at g l.0 e l.1 (cut_forest f e v) (parent_gone f e v)) m.1 m.0 (linked-cut P f e all)
