-- Laws of the ordered map: what a key has after a change, and that maps which answer alike are equal.
use Rattle.std.proofs.Common.{◌≡◌, true, false, cond, not, List, ap, refl, sym, ◌∙◌, Some, None}
use Rattle.std.specs.declared.cmp.Ordering.{Ordering}
use Rattle.std.specs.declared.cmp.Ordering.TheVariants.{Less, Equal, Greater}
use Rattle.std.specs.Ordering.{eq_by_cmp, is_eq}
use Rattle.std.specs.Cmp.{IsTotalOrder, alike_right, eq_by_cmp_equiv, tied_itself}
use Rattle.std.specs.FinMap.{IsAntisymmetric}
use Rattle.std.specs.FinMap.Entries.{find, where_key, find-put, find-where_key, find_tied, same_entries}
use Rattle.scene_kinds.specs.Map.{Map, get, insert, remove, same_entries_map}
use Rattle.scene_kinds.proofs.Choices.{turned}

-- a key ties with itself
pub ties_itself : {K : Type 0} {R : K → K → Ordering} → IsTotalOrder R → (k : K) → eq_by_cmp R k k ≡ true
ties_itself o k = ap is_eq (tied_itself o k)

-- keys that tie are equal
pub equal_keys : {K : Type 0} {R : K → K → Ordering} → IsAntisymmetric R → (q k : K) → eq_by_cmp R q k ≡ true → q ≡ k
equal_keys {K} {R} same q k = elim (R q k) as (λ r. R q k ≡ r → is_eq r ≡ true → q ≡ k) [
  | Less ↦ λ p e. absurd (let g : false ≡ true = e in cc)
  | Equal ↦ λ p e. same q k p
  | Greater ↦ λ p e. absurd (let g : false ≡ true = e in cc)
] refl

module _ {K X : Type 0} {R : K → K → Ordering} where
  module _ (o : IsTotalOrder R) where
    -- the value of a key after a value was put in
    pub get-insert : (m : Map R X) (k : K) (v : X) (q : K) → get (insert o m k v) q ≡ cond (eq_by_cmp R q k) (Some v) (get m q)
    get-insert m k v q = find-put R o q k v m.entries

    -- what a search finds after a key was taken out
    pub find-without : (k q : K) (es : List (K × X)) → find R q (where_key R (λ x. not (eq_by_cmp R k x)) es) ≡ cond (eq_by_cmp R q k) None (find R q es)
    find-without k q es = find-where_key R (λ x. not (eq_by_cmp R k x)) q (λ x t. ap (λ r. not (is_eq r)) (sym (alike_right o q x k t))) es
        ∙ turned (eq_by_cmp R k q) _ _ ∙ ap (λ b. cond b None (find R q es)) ((eq_by_cmp_equiv o).symm k q)

    -- the value of a key after a key was taken out
    pub get-remove : (m : Map R X) (k q : K) → get (remove m k) q ≡ cond (eq_by_cmp R q k) None (get m q)
    get-remove m k q = find-without k q m.entries

    -- keys that tie have one value
    pub get_tied : (m : Map R X) (q x : K) → R q x ≡ Equal → get m x ≡ get m q
    get_tied m q x t = find_tied R o q x t m.entries

    -- maps that answer alike at every key are equal
    pub same_map : IsAntisymmetric R → (m n : Map R X) → ((q : K) → get m q ≡ get n q) → m ≡ n
    same_map same m n is = same_entries_map m n (same_entries R o same m.entries n.entries m.sorted n.sorted is)
