-- Entries in the order of their keys: what is found among them, and what a value that is put in leaves as it was.
use Rattle.std.proofs.Common.{◌≡◌, ℕ, Bool, true, false, cond, ◌&&◌, T, List, [], ◌∷◌, map, refl, ap, sym, ◌∙◌, arith, Some, None}
use Rattle.std.specs.Prelude.{is_some}
use Rattle.std.specs.List.{Contains, list_all}
use Rattle.std.specs.Ordering.{nat_cmp, eq_by_cmp, is_eq, is_lt}
use Rattle.std.specs.declared.cmp.Ordering.TheVariants.{Less, Equal, Greater}
use Rattle.std.specs.Cmp.{nat_cmp_total}
use Rattle.std.specs.Cmp.Derive.{both_true}
use Rattle.std.specs.FinMap.{nat_cmp-IsAntisymmetric}
use Rattle.std.specs.FinMap.Entries.{put, find, by_order, below_all, is_sorted, find-put}
use Rattle.std.proofs.lemmas.Bool.{and_parts}
use Rattle.std.proofs.lemmas.Bool.Decides.{nat_tests}
use Rattle.scene_kinds.proofs.Choices.{test_parts, less}
use Rattle.scene_kinds.proofs.Maps.{equal_keys, ties_itself}
use Rattle.scene_pass.proofs.Members.{none_in, in_cases}

-- two tests that pass
pub both_tests : (a b : Bool) → T a → T b → T (a && b)
both_tests true b h g = g
both_tests false b h g = absurd h

module _ {X : Type 0} where
  -- a key below all others isn't among them
  pub key_below : (k : ℕ) (es : List (ℕ × X)) → T (below_all nat_cmp k es) → find nat_cmp k es ≡ None
  key_below k [] h = refl
  key_below k (e ∷ es) h =
      let parts = test_parts (is_lt (nat_cmp k e.0)) (below_all nat_cmp k es) h in
      ap (λ r. cond (is_eq r) (Some e.1) (find nat_cmp k es)) (less (nat_cmp k e.0) parts.0) ∙ key_below k es parts.1

  -- the first key is below the others, which ascend
  pub ascent : (e : ℕ × X) (es : List (ℕ × X)) → T (is_sorted nat_cmp (e ∷ es)) → T (below_all nat_cmp e.0 es) × T (is_sorted nat_cmp es)
  ascent e es h = let parts = test_parts (below_all nat_cmp e.0 es) (is_sorted nat_cmp es) h in (parts.0, parts.1)

  -- a key that is found isn't below the first
  pub not_before : (k : ℕ) (e : ℕ × X) (es : List (ℕ × X)) (x : X) → T (is_sorted nat_cmp (e ∷ es)) → find nat_cmp k (e ∷ es) ≡ Some x
      → nat_cmp k e.0 ≡ Less → ⊥
  not_before k e [] x h there t =
      let wrong : None ≡ Some x = ap (λ o. cond (is_eq o) (Some e.1) None) (sym t) ∙ there in absurd (cc)
  not_before k e (f ∷ fs) x h there t =
      let a = ascent e (f ∷ fs) h in
      let next : nat_cmp e.0 f.0 ≡ Less = less (nat_cmp e.0 f.0) (test_parts (is_lt (nat_cmp e.0 f.0)) (below_all nat_cmp e.0 fs) a.0).0 in
      let onward : nat_cmp k f.0 ≡ Less = between k e.0 f.0 t next in
      not_before k f fs x a.1 (ap (λ o. cond (is_eq o) (Some e.1) (find nat_cmp k (f ∷ fs))) (sym t) ∙ there) onward
    where
      between : (k a b : ℕ) → nat_cmp k a ≡ Less → nat_cmp a b ≡ Less → nat_cmp k b ≡ Less
      between k a b p q = grind (arith, nat_tests)

  -- a key that is past the first is found among the others
  pub found_later : (k : ℕ) (e : ℕ × X) (es : List (ℕ × X)) (x : X) → nat_cmp k e.0 ≡ Greater → find nat_cmp k (e ∷ es) ≡ Some x → find nat_cmp k es ≡ Some x
  found_later k e es x t there = ap (λ o. cond (is_eq o) (Some e.1) (find nat_cmp k es)) (sym t) ∙ there

  -- a value in place of one of its key leaves the keys as they were
  pub keys_put : (k : ℕ) (v x : X) (es : List (ℕ × X)) → T (is_sorted nat_cmp es) → find nat_cmp k es ≡ Some x
      → map (λ (e : ℕ × X). e.0) (put nat_cmp k v es) ≡ map (λ (e : ℕ × X). e.0) es
  keys_put k v x [] h there = absurd (let wrong : None ≡ Some x = there in cc)
  keys_put k v x (e ∷ es) h there =
      elim (nat_cmp k e.0) as (λ o. nat_cmp k e.0 ≡ o → map (λ (e : ℕ × X). e.0) (by_order o ((k, v) ∷ e ∷ es) ((e.0, v) ∷ es) (e ∷ put nat_cmp k v es)) ≡ e.0 ∷ map (λ (e : ℕ × X). e.0) es) [
        | Less ↦ λ t. absurd (not_before k e es x h there t)
        | Equal ↦ λ t. refl
        | Greater ↦ λ t. ap (λ ks. e.0 ∷ ks) (keys_put k v x es (ascent e es h).1 (found_later k e es x t there))
      ] refl

  -- and no other key is found where one was put in place of its own
  pub found_as_before : (k : ℕ) (v x : X) (es : List (ℕ × X)) (q : ℕ) → find nat_cmp k es ≡ Some x
      → is_some (find nat_cmp q (put nat_cmp k v es)) ≡ is_some (find nat_cmp q es)
  found_as_before k v x es q there =
      ap is_some (find-put nat_cmp nat_cmp_total q k v es)
      ∙ elim (eq_by_cmp nat_cmp q k) as (λ b. eq_by_cmp nat_cmp q k ≡ b → is_some (cond b (Some v) (find nat_cmp q es)) ≡ is_some (find nat_cmp q es)) [
        | true ↦ λ t. sym (ap is_some (ap (λ n. find nat_cmp n es) (equal_keys nat_cmp-IsAntisymmetric q k t) ∙ there))
        | false ↦ λ t. refl
      ] refl

  -- what was put in is found
  pub found_put : (k : ℕ) (v : X) (es : List (ℕ × X)) → find nat_cmp k (put nat_cmp k v es) ≡ Some v
  found_put k v es = find-put nat_cmp nat_cmp_total k k v es ∙ ap (λ b. cond b (Some v) (find nat_cmp k es)) (ties_itself nat_cmp_total k)

  -- and at another key what was there
  pub found_apart : (k q : ℕ) (v : X) (es : List (ℕ × X)) → eq_by_cmp nat_cmp q k ≡ false → find nat_cmp q (put nat_cmp k v es) ≡ find nat_cmp q es
  found_apart k q v es t = find-put nat_cmp nat_cmp_total q k v es ∙ ap (λ b. cond b (Some v) (find nat_cmp q es)) t

  -- what is true of all entries is true of one that is found
  pub found_passes : (p : ℕ × X → Bool) (es : List (ℕ × X)) (k : ℕ) (x : X) → list_all p es ≡ true → find nat_cmp k es ≡ Some x → p (k, x) ≡ true
  found_passes p [] k x all is = absurd (let wrong : None ≡ Some x = is in cc)
  found_passes p (e ∷ es) k x all is =
      let parts = and_parts (p e) (list_all p es) all in
      elim (eq_by_cmp nat_cmp k e.0) as (λ b. eq_by_cmp nat_cmp k e.0 ≡ b → cond b (Some e.1) (find nat_cmp k es) ≡ Some x → p (k, x) ≡ true) [
        | true ↦ λ t g.
            let same : e.1 ≡ x = cc in
            (λ i. p (equal_keys nat_cmp-IsAntisymmetric k e.0 t i, sym same i)) ∙ parts.0
        | false ↦ λ t g. found_passes p es k x parts.1 g
      ] refl is

  -- and of all with one more of which it is true
  pub all_put : (p : ℕ × X → Bool) (es : List (ℕ × X)) (k : ℕ) (v : X) → list_all p es ≡ true → p (k, v) ≡ true → list_all p (put nat_cmp k v es) ≡ true
  all_put p [] k v all here = both_true here refl
  all_put p (e ∷ es) k v all here =
      let parts = and_parts (p e) (list_all p es) all in
      elim (nat_cmp k e.0) as (λ o. nat_cmp k e.0 ≡ o → list_all p (by_order o ((k, v) ∷ e ∷ es) ((e.0, v) ∷ es) (e ∷ put nat_cmp k v es)) ≡ true) [
        | Less ↦ λ t. both_true here all
        | Equal ↦ λ t.
            let same : k ≡ e.0 = nat_cmp-IsAntisymmetric k e.0 t in
            both_true (ap (λ (n : ℕ). p (n, v)) (sym same) ∙ here) parts.1
        | Greater ↦ λ t. both_true parts.0 (all_put p es k v parts.1 here)
      ] refl

  -- among keys that ascend each entry is the one of its key
  pub entry_found : (es : List (ℕ × X)) (k : ℕ) (x : X) → T (is_sorted nat_cmp es) → Contains es (k, x) → find nat_cmp k es ≡ Some x
  entry_found [] k x h g = none_in (k, x) g
  entry_found (e ∷ es) k x h g =
      let a = ascent e es h in
      in_cases e es (k, x) g
      (λ s.
      let key : e.0 ≡ k = ap (λ (z : ℕ × X). z.0) s in
      let test : eq_by_cmp nat_cmp k e.0 ≡ true = ap (eq_by_cmp nat_cmp k) key ∙ ties_itself nat_cmp_total k in
      ap (λ b. cond b (Some e.1) (find nat_cmp k es)) test ∙ ap (λ (z : ℕ × X). Some z.1) s)
      (λ r.
      let later = entry_found es k x a.1 r in
      elim (eq_by_cmp nat_cmp k e.0) as (λ b. eq_by_cmp nat_cmp k e.0 ≡ b → cond b (Some e.1) (find nat_cmp k es) ≡ Some x) [
        | true ↦ λ t.
            let none : find nat_cmp k es ≡ None = ap (λ n. find nat_cmp n es) (equal_keys nat_cmp-IsAntisymmetric k e.0 t) ∙ key_below e.0 es a.0 in
            absurd (let wrong : None ≡ Some x = sym none ∙ later in cc)
        | false ↦ λ t. later
      ] refl)
