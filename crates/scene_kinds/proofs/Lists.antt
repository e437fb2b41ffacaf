-- Laws of maps to lists: a list that is put in, taken out or put back.
use Rattle.std.proofs.Common.{◌≡◌, true, false, cond, List, [], ◌∷◌, refl, ap, sym, ◌∙◌, Option, Some, None}
use Rattle.std.specs.declared.cmp.Ordering.{Ordering}
use Rattle.std.specs.declared.cmp.Ordering.TheVariants.{Less, Equal, Greater}
use Rattle.std.specs.Ordering.{eq_by_cmp, is_eq}
use Rattle.std.specs.Cmp.{IsTotalOrder}
use Rattle.std.specs.FinMap.{IsAntisymmetric}
use Rattle.scene_kinds.specs.Map as map
use Rattle.scene_kinds.specs.Map.{Map}
use Rattle.scene_kinds.specs.Lists.{listed, list_at, with_list}
use Rattle.scene_kinds.proofs.Maps.{get-insert, get-remove, get_tied, same_map, ties_itself, equal_keys}
use Rattle.scene_kinds.proofs.Choices.{absorbed, exchanged}

-- a list as a map has it
abbrev pub kept : {X : Type 0} → List X → Option (X × List X)
kept [] = None
kept (x ∷ xs) = Some (x, xs)

-- a list that a map shows, put back
pub kept-listed : {X : Type 0} (p : Option (X × List X)) → kept (listed p) ≡ p
kept-listed None = refl
kept-listed (Some p) = refl

-- a list that is put in, shown
pub listed-kept : {X : Type 0} (xs : List X) → listed (kept xs) ≡ xs
listed-kept [] = refl
listed-kept (x ∷ xs) = refl

module _ {K X : Type 0} {R : K → K → Ordering} (o : IsTotalOrder R) where
  pub get-with_list : (m : Map R (X × List X)) (k : K) (xs : List X) (q : K) → map.get (with_list o m k xs) q ≡ cond (eq_by_cmp R q k) (kept xs) (map.get m q)
  get-with_list m k [] q = get-remove o m k q
  get-with_list m k (x ∷ xs) q = get-insert o m k (x, xs) q

  -- the list at a key after a list was put in
  pub list_at-with_list : (m : Map R (X × List X)) (k : K) (xs : List X) (q : K) → list_at (with_list o m k xs) q ≡ cond (eq_by_cmp R q k) xs (list_at m q)
  list_at-with_list m k xs q = ap listed (get-with_list m k xs q) ∙
      elim (eq_by_cmp R q k) as (λ b. listed (cond b (kept xs) (map.get m q)) ≡ cond b xs (list_at m q)) [ true ↦ listed-kept xs | false ↦ refl ]

  -- the list that was put in stands there
  pub list_at_same : (m : Map R (X × List X)) (k : K) (xs : List X) → list_at (with_list o m k xs) k ≡ xs
  list_at_same m k xs = list_at-with_list m k xs k ∙ ap (λ b. cond b xs (list_at m k)) (ties_itself o k)

  module _ (same : IsAntisymmetric R) where
    -- a list that is put over another
    pub with_list-with_list : (m : Map R (X × List X)) (k : K) (xs ys : List X) → with_list o (with_list o m k xs) k ys ≡ with_list o m k ys
    with_list-with_list m k xs ys = same_map o same _ _ (λ q.
        get-with_list (with_list o m k xs) k ys q ∙ ap (cond (eq_by_cmp R q k) (kept ys)) (get-with_list m k xs q)
        ∙ absorbed (eq_by_cmp R q k) (kept ys) (kept xs) (map.get m q) ∙ sym (get-with_list m k ys q))

    -- the list that a key has, put in its own place
    pub with_list-list_at : (m : Map R (X × List X)) (k : K) → with_list o m k (list_at m k) ≡ m
    with_list-list_at m k = same_map o same _ _ (λ q. get-with_list m k (list_at m k) q ∙
        elim (R q k) as (λ r. R q k ≡ r → cond (is_eq r) (kept (list_at m k)) (map.get m q) ≡ map.get m q) [
          | Less ↦ λ p. refl
          | Equal ↦ λ p. kept-listed (map.get m k) ∙ get_tied o m q k p
          | Greater ↦ λ p. refl
        ] refl)

    -- a list put in, and the one before put back
    pub list_restored : (m : Map R (X × List X)) (k : K) (ys xs : List X) → xs ≡ list_at m k → with_list o (with_list o m k ys) k xs ≡ m
    list_restored m k ys xs e = with_list-with_list m k ys xs ∙ ap (with_list o m k) e ∙ with_list-list_at m k

    -- the lists of two keys may be put in in either order
    pub with_list_apart : (m : Map R (X × List X)) (j k : K) (xs ys : List X) → (j ≡ k → ⊥) → with_list o (with_list o m j xs) k ys ≡ with_list o (with_list o m k ys) j xs
    with_list_apart m j k xs ys h = same_map o same _ _ (λ q.
        get-with_list (with_list o m j xs) k ys q ∙ ap (cond (eq_by_cmp R q k) (kept ys)) (get-with_list m j xs q)
        ∙ exchanged (eq_by_cmp R q k) (eq_by_cmp R q j) (kept ys) (kept xs) (map.get m q) (λ u v. h (sym (equal_keys same q j v) ∙ equal_keys same q k u))
        ∙ sym (get-with_list (with_list o m k ys) j xs q ∙ ap (cond (eq_by_cmp R q j) (kept xs)) (get-with_list m k ys q)))

    -- the lists of other keys stay
    pub list_at_apart : (m : Map R (X × List X)) (k q : K) (xs : List X) → (q ≡ k → ⊥) → list_at (with_list o m k xs) q ≡ list_at m q
    list_at_apart m k q xs h = list_at-with_list m k xs q ∙
        elim (eq_by_cmp R q k) as (λ b. eq_by_cmp R q k ≡ b → cond b xs (list_at m q) ≡ list_at m q) [
          | true ↦ λ p. absurd (h (equal_keys same q k p))
          | false ↦ λ p. refl
        ] refl
