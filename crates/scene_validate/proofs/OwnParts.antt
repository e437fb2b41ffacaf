-- The parts of a world make it: the entries of a map, as keys with lists, are a listing of it.
use Rattle.std.proofs.Common.{◌≡◌, true, false, cond, T, List, [], ◌∷◌, refl, ap, sym, subst, ◌∙◌, Some}
use Rattle.std.specs.Prelude.{map as each}
use Rattle.std.specs.declared.cmp.Ordering.{Ordering}
use Rattle.std.specs.declared.cmp.Ordering.TheVariants.{Less, Equal, Greater}
use Rattle.std.specs.Ordering.{eq_by_cmp, is_lt, is_eq}
use Rattle.std.specs.Cmp.{IsTotalOrder, nat_cmp_total}
use Rattle.std.specs.FinMap.{IsAntisymmetric, nat_cmp-IsAntisymmetric}
use Rattle.std.specs.FinMap.Entries.{find, is_sorted, below_all}
use Rattle.std.specs.List.{list_all, AllByRecursion, IsDistinct}
use Rattle.scene_kinds.specs.Entity.{entity_cmp_total, entity_cmp_exact}
use Rattle.scene_kinds.specs.Lists.{whole}
use Rattle.scene_kinds.specs.Map as map
use Rattle.scene_kinds.specs.Map.{Map}
use Rattle.scene_kinds.proofs.Choices.{test_parts}
use Rattle.scene_kinds.proofs.Lists.{get-with_list}
use Rattle.scene_kinds.proofs.Maps.{same_map}
use Rattle.scene_resources.specs.Resources.{name_cmp, name_cmp_total, name_cmp_exact}
use Rattle.scene_model.specs.World.{World}
use Rattle.scene_validate.specs.Parts.{ArePartsOf, IsListing, keys, has_some, map_of, lists_of, resources_of, parts_of}
use Rattle.scene_validate.proofs.ResourceRules.{get-resources_of}

apart_of_less : (o : Ordering) → T (is_lt o) → is_eq o ≡ false
apart_of_less Less h = refl
apart_of_less Equal h = absurd h
apart_of_less Greater h = absurd h

module _ {K X : Type 0} (R : K → K → Ordering) where
  below_differ : (k : K) (es : List (K × X)) → T (below_all R k es) → AllByRecursion (λ j. eq_by_cmp R k j ≡ false) (keys es)
  below_differ k [] h = tt
  below_differ k (e ∷ es) h = let p = test_parts (is_lt (R k e.0)) (below_all R k es) h in (apart_of_less (R k e.0) p.0, below_differ k es p.1)

  -- keys that rise differ
  pub keys_differ : (es : List (K × X)) → T (is_sorted R es) → IsDistinct (eq_by_cmp R) (keys es)
  unfolding IsDistinct
  keys_differ [] h = tt
  keys_differ (e ∷ es) h = let p = test_parts (below_all R e.0 es) (is_sorted R es) h in (below_differ e.0 es p.0, keys_differ es p.1)

module _ {K X : Type 0} {R : K → K → Ordering} (o : IsTotalOrder R) (exact : IsAntisymmetric R) where
  same_keys : (es : List (K × (X × List X))) → keys (each (λ (e : K × (X × List X)). (e.0, whole e.1)) es) ≡ keys es
  same_keys [] = refl
  same_keys (e ∷ es) = ap (λ ks. e.0 ∷ ks) (same_keys es)

  none_empty : (es : List (K × (X × List X))) → list_all (λ (e : K × List X). has_some e.1) (each (λ (e : K × (X × List X)). (e.0, whole e.1)) es) ≡ true
  none_empty [] = refl
  none_empty (e ∷ es) = none_empty es

  get-lists : (es : List (K × (X × List X))) (q : K) → map.get (map_of o (each (λ (e : K × (X × List X)). (e.0, whole e.1)) es)) q ≡ find R q es
  get-lists [] q = refl
  get-lists (e ∷ es) q = get-with_list o (map_of o (each (λ (e : K × (X × List X)). (e.0, whole e.1)) es)) e.0 (whole e.1) q ∙ ap (cond (eq_by_cmp R q e.0) (Some e.1)) (get-lists es q)

  pub listing : (m : Map R (X × List X)) → IsListing o (lists_of m) m
  listing m = record {
    once = differ;
    some = none_empty m.entries;
    same = same_map o exact (map_of o (lists_of m)) m (λ q. get-lists m.entries q);
  }
    where
      differ : IsDistinct (eq_by_cmp R) (keys (lists_of m))
      differ = subst (IsDistinct (eq_by_cmp R)) (sym (same_keys m.entries)) (keys_differ R m.entries m.sorted)

-- the parts of a world are its own
pub own_parts : (w : World) → ArePartsOf (parts_of w) w
own_parts w = record {
  schema = refl;
  slots = refl;
  tick = refl;
  tables = listing nat_cmp_total nat_cmp-IsAntisymmetric w.tables;
  children = listing entity_cmp_total entity_cmp_exact w.children;
  names = keys_differ name_cmp w.resources.entries w.resources.sorted;
  resources = same_map name_cmp_total name_cmp_exact (resources_of w.resources.entries) w.resources (λ q. get-resources_of w.resources.entries q);
}
