-- Entries whose keys ascend are those of the map that is made of them.
use Rattle.std.proofs.Common.{◌≡◌, ℕ, Bool, true, false, T, List, [], ◌∷◌, Some, None, refl, ap, sym, subst, ◌∙◌}
use Rattle.std.specs.Prelude.{map as each}
use Rattle.std.specs.List.{list_all}
use Rattle.std.specs.declared.cmp.Ordering.{Ordering}
use Rattle.std.specs.declared.cmp.Ordering.TheVariants.{Less}
use Rattle.std.specs.Cmp.{IsTotalOrder}
use Rattle.std.specs.FinMap.Entries.{by_order, put, is_sorted, is_sorted-put}
use Rattle.scene_kinds.specs.declared.cell.Cell.{Cell}
use Rattle.scene_kinds.specs.Lists.{whole}
use Rattle.scene_resources.specs.Resources.{name_cmp}
use Rattle.scene_validate.specs.Parts.{has_some, keys, map_of, lists_of, resources_of}
use Rattle.scene_json_forms.proofs.Ascending.{Ascend, from_any}
use Rattle.scene_json_forms.proofs.ListsBack.{Follow}

module _ {K X : Type 0} (R : K → K → Ordering) where
  -- an entry whose key is below all others is put in front
  put_front : (k : K) (v : X) (es : List (K × X)) → Ascend R (Some k) (keys es) → put R k v es ≡ (k, v) ∷ es
  put_front k v [] h = refl
  put_front k v (e ∷ es) h = ap (λ o. by_order o ((k, v) ∷ e ∷ es) ((e.0, v) ∷ es) (e ∷ put R k v es)) h.0

  -- entries whose keys ascend are sorted
  pub sorted_is : IsTotalOrder R → (es : List (K × X)) → Ascend R None (keys es) → T (is_sorted R es)
  sorted_is o [] h = tt
  sorted_is o (e ∷ es) h =
      subst (λ (xs : List (K × X)). T (is_sorted R xs)) (put_front e.0 e.1 es h.1)
      (is_sorted-put R o e.0 e.1 es (sorted_is o es (from_any R (Some e.0) (keys es) h.1)))

module _ {K X : Type 0} {R : K → K → Ordering} (o : IsTotalOrder R) where
  whole_keys : (es : List (K × (X × List X))) → keys (each (λ (e : K × (X × List X)). (e.0, whole e.1)) es) ≡ keys es
  whole_keys [] = refl
  whole_keys (e ∷ es) = ap (λ ks. e.0 ∷ ks) (whole_keys es)

  -- keys that ascend, none with an empty list, stay as they are
  pub lists_kept : (es : List (K × List X)) → Ascend R None (keys es) → list_all (λ e. has_some e.1) es ≡ true → lists_of (map_of o es) ≡ es
  lists_kept [] h s = refl
  lists_kept ((k, []) ∷ es) h s = absurd (let g : false ≡ true = s in cc)
  lists_kept ((k, x ∷ xs) ∷ es) h s =
      let same : lists_of (map_of o es) ≡ es = lists_kept es (from_any R (Some k) (keys es) h.1) s in
      let own : keys (map_of o es).entries ≡ keys es = sym (whole_keys (map_of o es).entries) ∙ ap keys same in
      ap (each (λ (e : K × (X × List X)). (e.0, whole e.1))) (put_front R k (x, xs) (map_of o es).entries (subst (Ascend R (Some k)) (sym own) h.1))
      ∙ ap (λ (ls : List (K × List X)). (k, x ∷ xs) ∷ ls) same

-- resources whose names ascend stay as they are
pub resources_kept : (rs : List (List ℕ × Cell)) → Ascend name_cmp None (keys rs) → (resources_of rs).entries ≡ rs
resources_kept [] h = refl
resources_kept (r ∷ rs) h =
    ap (put name_cmp r.0 r.1) (resources_kept rs (from_any name_cmp (Some r.0) (keys rs) h.1)) ∙ put_front name_cmp r.0 r.1 rs h.1

module _ {K X : Type 0} (R : K → K → Ordering) (follows : K × X → K × X → Bool) (above : (a b : K × X) → follows a b ≡ true → R a.0 b.0 ≡ Less) where
  ascend_after : (before : K × X) (es : List (K × X)) → Follow follows (Some before) es → Ascend R (Some before.0) (keys es)
  ascend_after before [] f = tt
  ascend_after before (e ∷ es) f = (above before e f.0, ascend_after e es f.1)

  -- keys of entries that follow one another ascend
  pub ascend_from : (es : List (K × X)) → Follow follows None es → Ascend R None (keys es)
  ascend_from [] f = tt
  ascend_from (e ∷ es) f = (tt, ascend_after e es f.1)
