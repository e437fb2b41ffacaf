-- Children put under their parents one after another, and links made of lists of children.
use Rattle.std.proofs.Common.{◌≡◌, ℕ, zero, suc, ◌+◌, ◌<◌, true, false, cond, List, [], ◌∷◌, ◌++◌, length, take, refl, ap, sym, subst, ◌∙◌, arith, Some, None, Vec, get_or, append-nil}
use Rattle.std.specs.Prelude.{slice_get}
use Rattle.std.specs.List.{AllByRecursion, IsDistinct}
use Rattle.std.specs.declared.alloc.Global.{Global}
use Rattle.std.proofs.lemmas.Bool.{false_from_ne_true}
use Rattle.std.proofs.lemmas.List.{take_more, length-take-le}
use Rattle.scene_kinds.specs.declared.entity.Entity.{Entity}
use Rattle.scene_kinds.specs.Entity.{entity_cmp, entity_cmp_total, entity_cmp_exact, is_same}
use Rattle.scene_kinds.proofs.Lists.{list_at_same, list_at-with_list, with_list-with_list, with_list-list_at}
use Rattle.scene_links.specs.Forest.{Forest, IsForest, IsLink, Ends, holds, children_of, with_children, parent_of, ancestors_in, ancestors, joined_at, put_at}
use Rattle.scene_links.specs.Room.{CanRelink}
use Rattle.scene_links.proofs.Held.{none_or, parent_holds, held_parent, holds_head, holds_tail, holds_cases, same_is}
use Rattle.scene_links.proofs.Walks.{above_suc, above_none, ancestors_step}
use Rattle.scene_links.proofs.Below.{child_below}
use Rattle.scene_links.proofs.Joins.{put_at_last}
use Rattle.scene_validate.specs.Parts.{forest_of}
use Rattle.scene_validate.specs.Seen.{lists_seen}
use Rattle.scene_validate.proofs.Listed.{listed_in, listed_nowhere, listed_rest}
use Rattle.scene_validate.proofs.LinkRules.{Lists, children_at, held_at, at_held}
use Rattle.scene_validate.proofs.Once.{one_place}
use Rattle.scene_world.specs.Built.{CanHang, AreLinkable}
use Rattle.scene_world.proofs.BuiltLists.{AreLeft, one_left, lists_push}

-- ---- a forest in another

-- each link of a forest is one of another
abbrev pub IsWithin : Forest → Forest → Type 0
IsWithin f g = (p c : Entity) → IsLink f p c → IsLink g p c

module _ (f g : Forest) (w : IsWithin f g) (v : IsForest g) where
  parent_within : (e p : Entity) → parent_of f e ≡ Some p → parent_of g e ≡ Some p
  parent_within e p h = held_parent g e p v (w p e (parent_holds f e p h))

  ends_within : (n : ℕ) (e : Entity) → Ends n g e → (m : ℕ) × Ends m f e
  ends_within zero e h = none_or (parent_of f e) ((m : ℕ) × Ends m f e) (λ is. (0, is)) (λ p is. absurd (let k : None ≡ Some p = sym h ∙ parent_within e p is in cc))
  ends_within (suc n) e h = none_or (parent_of f e) ((m : ℕ) × Ends m f e) (λ is. (0, is)) (λ p is.
      let k : Some p ≡ Some h.0 = sym (parent_within e p is) ∙ h.1.0 in
      let s : h.0 ≡ p = cc in
      let r = ends_within n p (subst (Ends n g) s h.1.1) in (suc r.0, (p, (is, r.1))))

  pub part_forest : ((p : Entity) → IsDistinct is_same (children_of f p)) → IsForest f
  part_forest once = record {
    once = once;
    apart = λ p q c a b. v.apart p q c (w p c a) (w q c b);
    ends = λ e. let r = v.ends e in ends_within r.0 e r.1;
  }

  above_within : (x : Entity) (n : ℕ) (e : Entity) → holds x (ancestors_in n f e) ≡ true → holds x (ancestors g e) ≡ true
  above_within x zero e h = absurd (let k : false ≡ true = h in cc)
  above_within x (suc n) e h = none_or (parent_of f e) (holds x (ancestors g e) ≡ true)
      (λ is. absurd (let k : false ≡ true = sym (ap (holds x) (above_none f (suc n) e is)) ∙ h in cc))
      (λ p is.
      let up : ancestors g e ≡ p ∷ ancestors g p = ancestors_step g e p v (parent_within e p is) in
      holds_cases (holds x (ancestors g e) ≡ true) x p (ancestors_in n f p) (sym (ap (holds x) (above_suc f n e p is)) ∙ h)
      (λ s. ap (holds x) up ∙ ap (λ y. holds y (p ∷ ancestors g p)) s ∙ holds_head p (ancestors g p))
      (λ k. ap (holds x) up ∙ holds_tail x p (ancestors g p) (above_within x n p k)))

  pub none_above : (x e : Entity) → holds x (ancestors g e) ≡ false → holds x (ancestors f e) ≡ false
  none_above x e h = false_from_ne_true (holds x (ancestors f e)) (λ t. let k : false ≡ true = sym h ∙ above_within x (length f.entries) e t in absurd (cc))

-- ---- the children of one parent

taken_held : (c : Entity) (xs : List Entity) (k : ℕ) → holds c (take k xs) ≡ true → holds c xs ≡ true
taken_held c xs zero h = absurd (let f : false ≡ true = h in cc)
taken_held c [] (suc k) h = absurd (let f : false ≡ true = h in cc)
taken_held c (x ∷ xs) (suc k) h = holds_cases (holds c (x ∷ xs) ≡ true) c x (take k xs) h
    (λ s. ap (λ y. holds y (x ∷ xs)) s ∙ holds_head x xs)
    (λ t. holds_tail c x xs (taken_held c xs k t))

taken_place : (c : Entity) (xs : List Entity) (k : ℕ) → holds c (take k xs) ≡ true → (i : ℕ) × ((i < k) × (slice_get xs i ≡ Some c))
taken_place c xs zero h = absurd (let f : false ≡ true = h in cc)
taken_place c [] (suc k) h = absurd (let f : false ≡ true = h in cc)
taken_place c (x ∷ xs) (suc k) h = holds_cases ((i : ℕ) × ((i < suc k) × (slice_get (x ∷ xs) i ≡ Some c))) c x (take k xs) h
    (λ s. (0, (omega arith, ap (λ y. Some y) (sym s))))
    (λ t. let r = taken_place c xs k t in (suc r.0, (omega (arith, r.1.0), r.1.1)))

taken_distinct : (xs : List Entity) (k : ℕ) → IsDistinct is_same xs → IsDistinct is_same (take k xs)
unfolding IsDistinct
taken_distinct xs zero d = tt
taken_distinct [] (suc k) d = tt
taken_distinct (x ∷ xs) (suc k) d = (front xs k d.0, taken_distinct xs k d.1)
  where
    front : (ys : List Entity) (n : ℕ) → AllByRecursion (λ y. is_same x y ≡ false) ys → AllByRecursion (λ y. is_same x y ≡ false) (take n ys)
    front ys zero h = tt
    front [] (suc n) h = tt
    front (y ∷ ys) (suc n) h = (h.0, front ys n h.1)

got : (xs : List Entity) (k : ℕ) (d : Entity) → k < length xs → slice_get xs k ≡ Some (get_or xs k d)
got [] k d l = absurd (omega arith)
got (x ∷ xs) zero d l = refl
got (x ∷ xs) (suc k) d l = got xs k d (omega arith)

module _ (f : Forest) (p : Entity) (cs : List Entity) (can : CanHang f p cs) where
  -- the links with all of the children, and with the first so many
  abbrev whole : Forest
  whole = with_children f p cs

  abbrev pub first : ℕ → Forest
  first k = with_children f p (take k cs)

  listed : (es : List Entity) (q : Entity) → children_of (with_children f p es) q ≡ cond (is_same q p) es (children_of f q)
  listed es q = list_at-with_list entity_cmp_total f p es q

  within : (k : ℕ) → IsWithin (first k) whole
  within k q c h = elim (is_same q p) as (λ b. is_same q p ≡ b → holds c (cond b (take k cs) (children_of f q)) ≡ true → holds c (children_of whole q) ≡ true) [
    | true ↦ λ e g. ap (holds c) (listed cs q ∙ ap (λ b. cond b cs (children_of f q)) e) ∙ taken_held c cs k g
    | false ↦ λ e g. ap (holds c) (listed cs q ∙ ap (λ b. cond b cs (children_of f q)) e) ∙ g
  ] refl (sym (ap (holds c) (listed (take k cs) q)) ∙ h)

  once_first : (k : ℕ) (q : Entity) → IsDistinct is_same (children_of (first k) q)
  once_first k q = elim (is_same q p) as (λ b. is_same q p ≡ b → IsDistinct is_same (children_of (first k) q)) [
    | true ↦ λ e. subst (IsDistinct is_same) (sym (listed (take k cs) q ∙ ap (λ b. cond b (take k cs) (children_of f q)) e)) (taken_distinct cs k (subst (IsDistinct is_same) (list_at_same entity_cmp_total f p cs) (can.forest.once p)))
    | false ↦ λ e. subst (IsDistinct is_same) (listed cs q ∙ ap (λ b. cond b cs (children_of f q)) e ∙ sym (listed (take k cs) q ∙ ap (λ b. cond b (take k cs) (children_of f q)) e)) (can.forest.once q)
  ] refl

  pub none_first : with_children f p (take 0 cs) ≡ f
  none_first = ap (with_children f p) (sym can.none) ∙ with_list-list_at entity_cmp_total entity_cmp_exact f p

  module _ (k : ℕ) (c : Entity) (l : k < length cs) (is : c ≡ get_or cs k c) where
    at : slice_get cs k ≡ Some c
    at = got cs k c l ∙ ap (λ x. Some x) (sym is)

    link : IsLink whole p c
    link = ap (holds c) (list_at_same entity_cmp_total f p cs) ∙ at_held c cs k at

    parent : parent_of whole c ≡ Some p
    parent = held_parent whole c p can.forest link

    free_child : parent_of (first k) c ≡ None
    free_child = none_or (parent_of (first k) c) (parent_of (first k) c ≡ None) (λ e. e) (λ q e.
        let there : IsLink (first k) q c = parent_holds (first k) c q e in
        let s : q ≡ p = can.forest.apart q p c (within k q c there) link in
        let here : holds c (take k cs) ≡ true = ap (holds c) (sym (list_at_same entity_cmp_total f p (take k cs))) ∙ subst (λ x. IsLink (first k) x c) s there in
        let r = taken_place c cs k here in
        let same : r.0 ≡ k = one_place entity_cmp_total entity_cmp_exact cs r.0 k c (subst (IsDistinct is_same) (list_at_same entity_cmp_total f p cs) (can.forest.once p)) r.1.1 at in
        absurd (let low : r.0 < k = r.1.0 in omega arith))

    pub can_relink : (g : Forest) → g ≡ first k → CanRelink g c p k
    can_relink g e = subst (λ (h : Forest). CanRelink h c p k) (sym e) (record {
      link = record {
        other = (child_below whole c p can.forest parent).0;
        above = none_above (first k) whole (within k) can.forest c p (child_below whole c p can.forest parent).1;
        alone = record {
          child = λ q d h. (can.single p c link).1 q d (within k q d h);
          parent = λ q d h. (can.single p c link).0 q d (within k q d h);
          each = λ i. sym (((can.single p c link).1 p c link).0 (sym i));
        };
      };
      free = free_child;
      within = omega (arith, ap length (list_at_same entity_cmp_total f p (take k cs)), length-take-le k cs (omega arith));
    })

    pub one_more : (g h : Forest) → g ≡ first k → h ≡ joined_at g c p k → h ≡ first (k + 1)
    one_more g h e j =
        j ∙ ap (λ (x : Forest). joined_at x c p k) e
        ∙ ap (λ (xs : List Entity). with_children (first k) p (put_at xs k c)) (list_at_same entity_cmp_total f p (take k cs))
        ∙ with_list-with_list entity_cmp_total entity_cmp_exact f p (take k cs) (put_at (take k cs) k c)
        ∙ ap (with_children f p) (ap (λ n. put_at (take k cs) n c) (sym (length-take-le k cs (omega arith))) ∙ put_at_last c (take k cs) ∙ sym (take_more cs k c l ∙ ap (λ x. take k cs ++ x ∷ []) (sym is)))

-- ---- lists

linkable_rest : (l : Entity × List Entity) (ls : Lists) → AreLinkable (l ∷ ls) → AreLinkable ls
unfolding IsDistinct
linkable_rest l ls v = record {
  apart = v.apart.1;
  forest = part_forest (forest_of ls) (forest_of (l ∷ ls)) inside v.forest (λ p. once p);
  single = λ p c h. let k = v.single p c (inside p c h) in ((λ q d g. k.0 q d (inside q d g)), (λ q d g. k.1 q d (inside q d g)));
}
  where
    held_rest : (p c : Entity) → IsLink (forest_of ls) p c → (i : ℕ) × (slice_get (listed_in entity_cmp ls p) i ≡ Some c)
    held_rest p c h = held_at c (listed_in entity_cmp ls p) (ap (holds c) (sym (children_at ls p)) ∙ h)

    inside : IsWithin (forest_of ls) (forest_of (l ∷ ls))
    inside p c h =
        let r = held_rest p c h in
        let k = listed_rest entity_cmp_total entity_cmp_exact l ls p r.0 c v.apart r.1 in
        ap (holds c) (children_at (l ∷ ls) p) ∙ at_held c (listed_in entity_cmp (l ∷ ls) p) r.0 k.1

    once : (p : Entity) → IsDistinct is_same (children_of (forest_of ls) p)
    once p = elim (is_same p l.0) as (λ b. is_same p l.0 ≡ b → IsDistinct is_same (children_of (forest_of ls) p)) [
      | true ↦ λ e. subst (IsDistinct is_same) (sym (children_at ls p ∙ ap (listed_in entity_cmp ls) (same_is p l.0 e) ∙ listed_nowhere entity_cmp_total entity_cmp_exact ls l.0 v.apart.0)) tt
      | false ↦ λ e. subst (IsDistinct is_same) (children_at (l ∷ ls) p ∙ ap (λ b. cond b l.1 (listed_in entity_cmp ls p)) e ∙ sym (children_at ls p)) (v.forest.once p)
    ] refl

linkable_back : (ms ls : Lists) → AreLinkable (ms ++ ls) → AreLinkable ls
linkable_back [] ls v = v
linkable_back (m ∷ ms) ls v = linkable_back ms ls (linkable_rest m (ms ++ ls) v)

next_hangs : (l : Entity × List Entity) (ls : Lists) → AreLinkable (l ∷ ls) → CanHang (forest_of ls) l.0 l.1
unfolding IsDistinct
next_hangs l ls v = record { forest = v.forest; single = v.single; none = children_at ls l.0 ∙ listed_nowhere entity_cmp_total entity_cmp_exact ls l.0 v.apart.0 }

-- the links of the lists that are done
pub record AreHung (all rest : Lists) (f : Forest) : Type 0 where
  pub left : AreLeft all rest
  pub made : f ≡ forest_of left.done

abbrev pub Vecs : Type 0
Vecs = List (Entity × Vec Entity Global)

module _ (all : Lists) (v : AreLinkable all) (old new : Vecs) (p : Entity) (cs : Vec Entity Global) (e : old ≡ new ++ (p, cs) ∷ []) (f : Forest) (h : AreHung all (lists_seen old) f) where
  left_now : lists_seen new ++ ((p, cs.items) ∷ h.left.done) ≡ all
  left_now = one_left all (lists_seen old) (lists_seen new) (p, cs.items) h.left (ap (λ (xs : Vecs). lists_seen xs) e ∙ lists_push new (p, cs))

  pub hung_can : (es : List Entity) → es ≡ cs.items → CanHang f p es
  hung_can es s = subst (λ (xs : List Entity). CanHang f p xs) (sym s) (subst (λ (g : Forest). CanHang g p cs.items) (sym h.made)
      (next_hangs (p, cs.items) h.left.done (linkable_back (lists_seen new) ((p, cs.items) ∷ h.left.done) (subst AreLinkable (sym left_now) v))))

  pub hung_more : (es : List Entity) → es ≡ cs.items → (g : Forest) → g ≡ with_children f p es → AreHung all (lists_seen new) g
  hung_more es s g m = record {
    left = record { done = (p, cs.items) ∷ h.left.done; split = left_now };
    made = m ∙ ap (with_children f p) s ∙ ap (λ (x : Forest). with_children x p cs.items) h.made;
  }

pub none_hung : (all : Lists) (f : Forest) → f ≡ forest_of [] → AreHung all all f
none_hung all f e = record { left = record { done = []; split = append-nil all }; made = e }

pub all_hung : (all : Lists) (old : Vecs) (f : Forest) → AreHung all (lists_seen old) f → old ≡ [] → f ≡ forest_of all
all_hung all old f h e = h.made ∙ ap forest_of (ap (λ (xs : Vecs). lists_seen xs ++ h.left.done) (sym e) ∙ h.left.split)
