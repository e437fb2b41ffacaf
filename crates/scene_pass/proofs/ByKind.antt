-- Lists of values by kind: where the value of a kind stands, and what a filter of kinds keeps.
use Rattle.std.proofs.Common.{◌≡◌, ℕ, suc, ◌<◌, Bool, true, false, cond, List, [], ◌∷◌, refl, ap, subst, sym, ◌∙◌, Option, Some, None, nat_eq}
use Rattle.std.specs.Prelude.{T, slice_get, slice_set}
use Rattle.std.specs.List.{position_from}
use Rattle.std.specs.Ordering.{nat_cmp, eq_by_cmp}
use Rattle.std.specs.Cmp.{nat_cmp_is, nat_cmp_total}
use Rattle.std.specs.FinMap.{nat_cmp-IsAntisymmetric}
use Rattle.std.specs.FinMap.Entries.{put, find, where_key, by_order, below_all, is_sorted, is_sorted-put, is_sorted-where_key, find-put, find-where_key, same_entries}
use Rattle.std.specs.declared.cmp.Ordering.TheVariants.{Less, Equal, Greater}
use Rattle.std.proofs.lemmas.Bool.{eqb-true}
use Rattle.std.proofs.lemmas.Cmp.{ranked}
use Rattle.scene_kinds.proofs.Choices.{test_parts, less}
use Rattle.scene_kinds.proofs.Maps.{equal_keys}
use Rattle.scene_kinds.proofs.Places.{eq_by_cmp-nat_eq}
use Rattle.scene_kinds.proofs.Positions.{found, missed}

module _ {X : Type 0} where
  -- what is found among the values of kinds that pass a test
  pub find_kept : (p : ℕ → Bool) (q : ℕ) (es : List (ℕ × X)) → find nat_cmp q (where_key nat_cmp p es) ≡ cond (p q) (find nat_cmp q es) None
  find_kept p q es = find-where_key nat_cmp p q (λ x t. ap p (sym (nat_cmp-IsAntisymmetric q x t))) es

  -- a test of a kind, and one whether it is a kind that passes, in either order
  either_order : (p : ℕ → Bool) (q k : ℕ) (v : X) (o : Option X) → p k ≡ true → cond (p q) (cond (eq_by_cmp nat_cmp q k) (Some v) o) None ≡ cond (eq_by_cmp nat_cmp q k) (Some v) (cond (p q) o None)
  either_order p q k v o h = elim (eq_by_cmp nat_cmp q k) as (λ b. eq_by_cmp nat_cmp q k ≡ b → cond (p q) (cond b (Some v) o) None ≡ cond b (Some v) (cond (p q) o None)) [
    | true ↦ λ t. ap (λ b. cond b (Some v) None) (ap p (equal_keys nat_cmp-IsAntisymmetric q k t) ∙ h)
    | false ↦ λ t. refl
  ] refl

  -- a value of a kind that passes may be put in before or after
  pub kept_put : (p : ℕ → Bool) (k : ℕ) (v : X) (es : List (ℕ × X)) → p k ≡ true → T (is_sorted nat_cmp es) → where_key nat_cmp p (put nat_cmp k v es) ≡ put nat_cmp k v (where_key nat_cmp p es)
  kept_put p k v es h up = same_entries nat_cmp nat_cmp_total nat_cmp-IsAntisymmetric (where_key nat_cmp p (put nat_cmp k v es)) (put nat_cmp k v (where_key nat_cmp p es))
      (is_sorted-where_key nat_cmp p (put nat_cmp k v es) (is_sorted-put nat_cmp nat_cmp_total k v es up))
      (is_sorted-put nat_cmp nat_cmp_total k v (where_key nat_cmp p es) (is_sorted-where_key nat_cmp p es up))
      (λ q.
      find_kept p q (put nat_cmp k v es) ∙ ap (λ o. cond (p q) o None) (find-put nat_cmp nat_cmp_total q k v es) ∙ either_order p q k v (find nat_cmp q es) h
      ∙ sym (find-put nat_cmp nat_cmp_total q k v (where_key nat_cmp p es) ∙ ap (cond (eq_by_cmp nat_cmp q k) (Some v)) (find_kept p q es)))

  -- what is found stands above what is below all
  above_all : (x kind : ℕ) (es : List (ℕ × X)) (v : X) → T (below_all nat_cmp x es) → find nat_cmp kind es ≡ Some v → x < kind
  above_all x kind [] v h g = absurd (let wrong : None ≡ Some v = g in cc)
  above_all x kind (e ∷ es) v h g = elim (eq_by_cmp nat_cmp kind e.0) as (λ b. eq_by_cmp nat_cmp kind e.0 ≡ b → cond b (Some e.1) (find nat_cmp kind es) ≡ Some v → x < kind) [
    | true ↦ λ t _. subst (λ k. x < k) (sym (equal_keys nat_cmp-IsAntisymmetric kind e.0 t)) (ranked x e.0 Less (sym (less _ (test_parts _ _ h).0)))
    | false ↦ λ t r. above_all x kind es v (test_parts _ _ h).1 r
  ] refl g

  -- the value of a kind stands at a place, and a new one put there is put in by its kind
  pub record IsAt (es : List (ℕ × X)) (kind at : ℕ) : Type 0 where
    pub value : X
    pub there : slice_get es at ≡ Some (kind, value)
    pub found : find nat_cmp kind es ≡ Some value
    pub set : (v : X) → slice_set es at (kind, v) ≡ put nat_cmp kind v es

  -- what the test of a search says of a first value
  passed : (kind : ℕ) (e : ℕ × X) (es : List (ℕ × X)) (b : Bool) → nat_eq kind e.0 ≡ b → find nat_cmp kind (e ∷ es) ≡ cond b (Some e.1) (find nat_cmp kind es)
  passed kind e es b t = ap (λ c. cond c (Some e.1) (find nat_cmp kind es)) (eq_by_cmp-nat_eq kind e.0 ∙ t)

  -- where a search for a kind ends, its value stands
  pub at_place : (kind : ℕ) (es : List (ℕ × X)) (at : ℕ) → T (is_sorted nat_cmp es) → position_from (λ (e : ℕ × X). nat_eq kind e.0) 0 es ≡ Some at → IsAt es kind at
  at_place kind es at up h = found (λ (e : ℕ × X). nat_eq kind e.0) (λ xs i. T (is_sorted nat_cmp xs) → IsAt xs kind i) here later es at h up
    where
      here : (e : ℕ × X) (xs : List (ℕ × X)) → nat_eq kind e.0 ≡ true → T (is_sorted nat_cmp (e ∷ xs)) → IsAt (e ∷ xs) kind 0
      here e xs t _ =
          let same : kind ≡ e.0 = eqb-true kind e.0 t in record {
            value = e.1;
            there = ap (λ (k : ℕ). Some (k, e.1)) (sym same);
            found = passed kind e xs true t;
            set = λ v. ap (λ (k : ℕ). (k, v) ∷ xs) same ∙ ap (λ o. by_order o ((kind, v) ∷ e ∷ xs) ((e.0, v) ∷ xs) (e ∷ put nat_cmp kind v xs)) (nat_cmp_is kind e.0 Equal same);
          }

      later : (e : ℕ × X) (xs : List (ℕ × X)) (i : ℕ) → nat_eq kind e.0 ≡ false → (T (is_sorted nat_cmp xs) → IsAt xs kind i) → T (is_sorted nat_cmp (e ∷ xs)) → IsAt (e ∷ xs) kind (suc i)
      later e xs i t next rising =
          let parts = test_parts (below_all nat_cmp e.0 xs) (is_sorted nat_cmp xs) rising in
          let rest = next parts.1 in record {
            value = rest.value;
            there = rest.there;
            found = passed kind e xs false t ∙ rest.found;
            set = λ v. ap (e ∷◌) (rest.set v) ∙ ap (λ o. by_order o ((kind, v) ∷ e ∷ xs) ((e.0, v) ∷ xs) (e ∷ put nat_cmp kind v xs)) (nat_cmp_is kind e.0 Greater (above_all e.0 kind xs rest.value parts.0 rest.found));
          }

  -- where it ends with none, there is no value
  pub at_none : (kind : ℕ) (es : List (ℕ × X)) → position_from (λ (e : ℕ × X). nat_eq kind e.0) 0 es ≡ None → find nat_cmp kind es ≡ None
  at_none kind es h = missed (λ (e : ℕ × X). nat_eq kind e.0) (λ xs. find nat_cmp kind xs ≡ None) refl (λ e xs t none. passed kind e xs false t ∙ none) es h
