-- How many children a parent has beside one.
use Rattle.std.proofs.Common.{◌≡◌, ◌+◌, ◌-◌, ◌≤◌, Bool, true, false, cond, ◌||◌, List, [], ◌∷◌, length, ap, sym, ◌∙◌, arith, Some}
use Rattle.scene_kinds.specs.declared.entity.Entity.{Entity}
use Rattle.scene_kinds.specs.Entity.{is_same}
use Rattle.scene_links.specs.Forest.{Forest, IsForest, holds, without, children_of, parent_of, cut}
use Rattle.scene_links.proofs.Cuts.{without_none, children-cut}
use Rattle.scene_links.proofs.Held.{held_parent}
use Rattle.scene_links.proofs.LinkLaws.{parent_holds}

-- a list without one that it holds is shorter by one
shorter : (c : Entity) (xs : List Entity) → holds c xs ≡ true → length (without c xs) + 1 ≡ length xs
shorter c [] h = absurd (let k : false ≡ true = h in cc)
shorter c (x ∷ xs) h = from (is_same c x) h (λ k. shorter c xs k)
  where
    from : (b : Bool) → (b || holds c xs) ≡ true → (holds c xs ≡ true → length (without c xs) + 1 ≡ length xs) → length (cond b xs (x ∷ without c xs)) + 1 ≡ length (x ∷ xs)
    from true k rest = omega arith
    from false k rest = let fewer = rest k in omega (arith, fewer)

module _ (f : Forest) (c p : Entity) (xs : List Entity) (v : IsForest f) (are : xs ≡ children_of f p) where
  counted : parent_of f c ≡ Some p → length (children_of (cut f c) p) + 1 ≡ length xs
  counted is =
      ap (λ ys. length ys + 1) (children-cut f c v p)
      ∙ shorter c (children_of f p) (parent_holds f c p is)
      ∙ ap length (sym are)

  pub some_there : parent_of f c ≡ Some p → 1 ≤ length xs
  some_there is = let all = counted is in omega (arith, all)

  pub one_fewer : parent_of f c ≡ Some p → length xs - 1 ≡ length (children_of (cut f c) p)
  one_fewer is = let all = counted is in omega (arith, all)

  pub as_many : (parent_of f c ≡ Some p → ⊥) → length xs ≡ length (children_of (cut f c) p)
  as_many other =
      ap length are
      ∙ sym (ap length (children-cut f c v p ∙ without_none c (children_of f p) (λ h. other (held_parent f c p v h))))
