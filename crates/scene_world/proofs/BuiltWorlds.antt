-- Parts that break no rule are such that the storage of a world is made of them.
use Rattle.std.proofs.Common.{◌≡◌, true, length, ap, sym, ◌∙◌, None, nat_lt, nat_eq}
use Rattle.std.specs.List.{list_all, AllByRecursion}
use Rattle.scene_kinds.specs.declared.entity.Entity.{Entity}
use Rattle.scene_kinds.specs.declared.cells.Row.{Row}
use Rattle.scene_kinds.specs.Cells.{HasKinds}
use Rattle.scene_kinds.specs.Entity.{is_same}
use Rattle.scene_alloc.specs.Slots.{StoredSlots}
use Rattle.scene_resources.specs.Resources.{StoredResources}
use Rattle.scene_world.specs.Stored.{world_of as stored_world}
use Rattle.scene_links.specs.Forest.{Forest, IsLink}
use Rattle.scene_links.proofs.Held.{same_is}
use Rattle.scene_table.specs.Tables.{Tables, lives}
use Rattle.scene_model.specs.Valid.{IsValid, IsRowOf}
use Rattle.scene_validate.specs.Parts.{Parts, AreInRange, world_of, tables_of, forest_of, resources_of, slots_in}
use Rattle.scene_validate.specs.Rules.{rows_in, is_current, are_distinct, first_broken}
use Rattle.scene_validate.proofs.Tests.{and_is, all_is, all_with, at_place, any_is}
use Rattle.scene_validate.proofs.RowRules.{has_row_lives, tables_fit}
use Rattle.scene_validate.proofs.BrokenTests.{one_current, places_once, row_indices, all_mapped}
use Rattle.scene_validate.proofs.WorldRules.{Unbroken, unbroken_is, valid_is, apart_is, parents_apart}
use Rattle.scene_world.specs.Built.{AreStorable, AreLinkable}

module _ (p : Parts) (range : AreInRange p) (h : first_broken p ≡ None) where
  unbroken : Unbroken p
  unbroken = unbroken_is p h

  valid : IsValid (world_of p)
  valid = valid_is p range h

  -- rows have kinds of their sets, and indices of their own
  pub storable : AreStorable (length p.generations) p.tables
  storable =
      let places = and_is (list_all (λ i. nat_lt i (length p.generations)) (row_indices p)) (are_distinct nat_eq (row_indices p)) (places_once p unbroken.current ∙ unbroken.once) in
      record {
        apart = apart_is p unbroken.tables;
        kinds = all_with (λ t. AllByRecursion (IsRowOf p.schema t.0) t.1) (λ t. AllByRecursion (HasKinds t.0) t.1)
            (λ t k. all_with (IsRowOf p.schema t.0) (HasKinds t.0) (λ r f. f.kinds) t.1 k) p.tables (tables_fit p.schema p.tables (and_is _ _ unbroken.tables).1);
        low = sym (all_mapped (λ i. nat_lt i (length p.generations)) (λ (r : Row). r.entity.index) (rows_in p)) ∙ places.0;
        once = places.1;
      }

  -- who lives has its slot's generation
  current : (e : Entity) → lives (tables_of p.tables) e ≡ true → is_current p.generations e ≡ true
  current e l =
      let r = any_is (λ (x : Row). is_same e x.entity) (rows_in p) (has_row_lives p.tables (apart_is p unbroken.tables) e ∙ l) in
      ap (is_current p.generations) (same_is e r.1.0.entity r.1.1.1)
      ∙ at_place (λ (x : Row). is_current p.generations x.entity ≡ true) (rows_in p) r.0 r.1.0 (all_is (λ (x : Row). is_current p.generations x.entity) (rows_in p) unbroken.current) r.1.1.0

  -- so entities that are linked have indices of their own
  pub linkable : AreLinkable p.children
  linkable = record {
    apart = parents_apart p unbroken.links;
    forest = valid.links.forest;
    single = λ q c k.
        let l = valid.links.live q c k in
        ((λ x y m. alone q l.0 x y m), (λ x y m. alone c l.1 x y m));
  }
    where
      one : (a b : Entity) → lives (tables_of p.tables) a ≡ true → lives (tables_of p.tables) b ≡ true → b.index ≡ a.index → b ≡ a
      one a b u v e = one_current p.generations b a (current b v) (current a u) e

      alone : (a : Entity) → lives (tables_of p.tables) a ≡ true → (x y : Entity) → IsLink (forest_of p.children) x y → (x.index ≡ a.index → x ≡ a) × (y.index ≡ a.index → y ≡ a)
      alone a u x y m = let l = valid.links.live x y m in (one a x u l.0, one a y u l.1)

-- the storage that was made is seen as the world of the parts
pub seen_world : (p : Parts) (slots : StoredSlots) (tables : Tables) (forest : Forest) (resources : StoredResources) → slots.state ≡ slots_in p → tables ≡ tables_of p.tables → forest ≡ forest_of p.children → resources.cells ≡ resources_of p.resources
    → stored_world p.schema slots p.tick tables forest resources ≡ world_of p
seen_world p slots tables forest resources s t f r = λ i. record { schema = p.schema; slots = s i; tick = p.tick; tables = t i; children = f i; resources = r i }
