-- What is read of a world under the keys of a map is the map.
use Rattle.std.proofs.Common.{◌≡◌, ℕ, cond, T, List, [], ◌∷◌, refl, ap, sym, ◌∙◌, Some}
use Rattle.std.specs.Prelude.{Option, map as each}
use Rattle.std.specs.declared.cmp.Ordering.{Ordering}
use Rattle.std.specs.declared.cmp.Ordering.TheVariants.{Less}
use Rattle.std.specs.Cmp.{IsTotalOrder, nat_cmp_total}
use Rattle.std.specs.FinMap.Entries.{find, below_all, is_sorted}
use Rattle.std.specs.List.{AllByRecursion}
use Rattle.std.specs.Ordering.{nat_cmp, is_eq, is_lt, ordering_reverse}
use Rattle.serde_json.specs.Data.{Data}
use Rattle.scene_kinds.specs.declared.cells.Row.{Row}
use Rattle.scene_kinds.specs.Entity.{entity_cmp_total}
use Rattle.scene_kinds.specs.Lists.{whole, list_at, listed}
use Rattle.scene_kinds.specs.Map as map
use Rattle.scene_kinds.specs.Map.{Map}
use Rattle.scene_kinds.proofs.Choices.{test_parts, less}
use Rattle.scene_kinds.proofs.Maps.{ties_itself}
use Rattle.scene_links.specs.Forest.{Forest, children_of, parents}
use Rattle.scene_validate.specs.Parts.{keys, lists_of}
use Rattle.scene_table.specs.Tables.{Tables, rows_at, masks_of}
use Rattle.scene_json_forms.specs.Text.{array_of, list_text}
use Rattle.scene_file.specs.Text.{children_text, table_text}
use Rattle.scene_file.specs.Printing.{table_json}

module _ {K X : Type 0} {R : K → K → Ordering} (o : IsTotalOrder R) where
  below_keys : (k : K) (es : List (K × X)) → T (below_all R k es) → AllByRecursion (λ j. R k j ≡ Less) (keys es)
  below_keys k [] h = tt
  below_keys k (e ∷ es) h = let p = test_parts (is_lt (R k e.0)) (below_all R k es) h in (less (R k e.0) p.0, below_keys k es p.1)

  -- keys above that of an entry find what they find past it
  found_past : (e : K × X) (es fs : List (K × X)) → AllByRecursion (λ k. R e.0 k ≡ Less) (keys fs)
      → each (λ k. find R k (e ∷ es)) (keys fs) ≡ each (λ k. find R k es) (keys fs)
  found_past e es [] h = refl
  found_past e es (f ∷ fs) h = λ i. cond (is_eq ((o.antisymm f.0 e.0 ∙ ap ordering_reverse h.0) i)) (Some e.1) (find R f.0 es) ∷ found_past e es
      fs h.1 i

  -- the keys of entries find what stands beside them
  pub found_in_order : (es : List (K × X)) → T (is_sorted R es) → each (λ k. find R k es) (keys es) ≡ each (λ e. Some e.1) es
  found_in_order [] h = refl
  found_in_order (e ∷ es) h = let parts = test_parts (below_all R e.0 es) (is_sorted R es) h in
      λ i. cond (ties_itself o e.0 i) (Some e.1) (find R e.0 es) ∷ (found_past e es es (below_keys e.0 es parts.0) ∙ found_in_order es parts.1) i

-- two lists, element by element, as pairs
pairs : {X K V : Type 0} (f : X → K) (g : X → V) (xs : List X) (es : List (K × V)) → each f xs ≡ keys es → each g xs ≡ each (λ e. e.1) es
    → each (λ x. (f x, g x)) xs ≡ es
pairs f g [] [] h k = refl
pairs f g [] (e ∷ es) h k = absurd (cc h)
pairs f g (x ∷ xs) [] h k = absurd (cc h)
pairs f g (x ∷ xs) (e ∷ es) h k =
    let key : f x ≡ e.0 = cc h in
    let value : g x ≡ e.1 = cc k in
    let keys_left : each f xs ≡ keys es = cc h in
    let values_left : each g xs ≡ each (λ e. e.1) es = cc k in
    λ i. (key i, value i) ∷ pairs f g xs es keys_left values_left i

module _ {K X : Type 0} {R : K → K → Ordering} (o : IsTotalOrder R) where
  listed_found : (F : K → Option (X × List X)) (es : List (K × (X × List X))) → each F (keys es) ≡ each (λ e. Some e.1) es
      → each {B = K × List X} (λ k. (k, listed (F k))) (keys es) ≡ each (λ e. (e.0, whole e.1)) es
  listed_found F [] h = refl
  listed_found F (e ∷ es) h =
      let found : F e.0 ≡ Some e.1 = cc h in
      let left : each F (keys es) ≡ each (λ e. Some e.1) es = cc h in
      λ i. (e.0, listed (found i)) ∷ listed_found F es left i

  -- the keys of a map with their lists are its lists
  pub lists_found : (m : Map R (X × List X)) → each {B = K × List X} (λ k. (k, list_at m k)) (keys m.entries) ≡ lists_of m
  lists_found m = listed_found (λ k. map.get m k) m.entries (found_in_order o m.entries m.sorted)

-- the text of a list made of another one
fused : {X Y : Type 0} (f : X → Y) (text : Y → Data) (xs : List X) (ys : List Y) → each f xs ≡ ys → list_text (λ x. text (f x)) xs ≡ list_text text ys
fused {X = X} f text xs ys h = ap array_of (both xs) ∙ ap (λ zs. list_text text zs) h
  where
    both : (zs : List X) → each (λ x. text (f x)) zs ≡ each text (each f zs)
    both [] = refl
    both (z ∷ zs) = ap (λ ds. text (f z) ∷ ds) (both zs)

-- the parents of a forest, each with its children, are the forest
pub forest_found : (f : Forest) → list_text (λ p. children_text (p, children_of f p)) (parents f) ≡ list_text children_text (lists_of f)
forest_found f = fused (λ p. (p, children_of f p)) children_text (parents f) (lists_of f) (lists_found entity_cmp_total f)

-- tables that are those of the kind sets with rows, in their order
tables_are : {X : Type 0} (mask : X → ℕ) (rows : X → List Row) (ts : List X) (tables : Tables) → each mask ts ≡ masks_of tables → each rows ts
    ≡ each (rows_at tables) (masks_of tables)
    → each (λ t. (mask t, rows t)) ts ≡ lists_of tables
tables_are mask rows ts tables h k = pairs mask rows ts (lists_of tables) (h ∙ sym (first_parts tables.entries))
    (k ∙ second_parts tables.entries (found_in_order nat_cmp_total tables.entries tables.sorted))
  where
    first_parts : (es : List (ℕ × (Row × List Row))) → keys (each {B = ℕ × List Row} (λ e. (e.0, whole e.1)) es) ≡ keys es
    first_parts [] = refl
    first_parts (e ∷ es) = ap (λ ks. e.0 ∷ ks) (first_parts es)

    second_parts : (es : List (ℕ × (Row × List Row))) → each (λ k. find nat_cmp k tables.entries) (keys es) ≡ each (λ e. Some e.1) es
        → each (rows_at tables) (keys es) ≡ each (λ e. e.1) (each {B = ℕ × List Row} (λ e. (e.0, whole e.1)) es)
    second_parts [] h = refl
    second_parts (e ∷ es) h =
        let first : find nat_cmp e.0 tables.entries ≡ Some e.1 = cc h in
        let left : each (λ k. find nat_cmp k tables.entries) (keys es) ≡ each (λ e. Some e.1) es = cc h in
        λ i. listed (first i) ∷ second_parts es left i

pub tables_found : {X : Type 0} (mask : X → ℕ) (rows : X → List Row) (ts : List X) (tables : Tables) → each mask ts ≡ masks_of tables
    → each rows ts ≡ each (rows_at tables) (masks_of tables)
    → list_text (λ t. table_json (mask t, rows t)) ts ≡ list_text table_text (lists_of tables)
unfolding table_json
tables_found mask rows ts tables h k = fused (λ t. (mask t, rows t)) table_text ts (lists_of tables) (tables_are mask rows ts tables h k)
