-- The tests of equality decide it.
use Rattle.std.proofs.Common.{◌≡◌, ℕ, Bool, true, false, ◌&&◌, nat_eq, refl, ap, subst, List, Decides}
use Rattle.std.specs.Cmp.{signed_Decides, unsigned_Decides}
use Rattle.std.specs.Cmp.Lexicographic.{pointwise_decides, bytes_decides}
use Rattle.std.proofs.lemmas.Bool.{and_parts, and_from}
use Rattle.scene_kinds.specs.declared.entity.Entity.{Entity}
use Rattle.scene_kinds.specs.declared.cell.Cell.{Cell}
use Rattle.scene_kinds.specs.declared.cells.Row.{Row}
use Rattle.scene_kinds.specs.declared.value.Value.{Value}
use Rattle.scene_kinds.specs.declared.value.Value.TheVariants.{Tag, Int, Vec3, Text, Link}
use Rattle.scene_kinds.specs.Entity.{is_same}
use Rattle.scene_links.proofs.Held.{same_is, same_self}
use Rattle.scene_table.specs.declared.home.Home.{Home}
use Rattle.scene_model.specs.Same.{same_value, same_cell, same_cells, same_row, same_home, same_link}

-- it is enough that what passes is equal, and that each passes with itself
decides_by : {K : Type 0} (E : K → K → Bool) → ((a b : K) → E a b ≡ true → a ≡ b) → ((a : K) → E a a ≡ true) → (a b : K) → Decides (E a b) (a ≡ b)
decides_by E is self a b = (is a b, λ e. subst (λ x. E a x ≡ true) e (self a))

-- of pairs
pub pair_decides : {K L : Type 0} (E : K → K → Bool) (F : L → L → Bool) → ((a b : K) → Decides (E a b) (a ≡ b)) → ((a b : L) → Decides (F a b) (a ≡ b))
    → (a b : K × L) → Decides (E a.0 b.0 && F a.1 b.1) (a ≡ b)
pair_decides E F first second a b = (
  λ h. let p = and_parts (E a.0 b.0) (F a.1 b.1) h in λ i. ((first a.0 b.0).0 p.0 i, (second a.1 b.1).0 p.1 i),
  λ e. and_from (E a.0 b.0) (F a.1 b.1) ((first a.0 b.0).1 (λ i. (e i).0)) ((second a.1 b.1).1 (λ i. (e i).1)),
)

pub entity_decides : (a b : Entity) → Decides (is_same a b) (a ≡ b)
entity_decides = decides_by is_same same_is same_self

value_is : (a b : Value) → same_value a b ≡ true → a ≡ b
value_is Tag Tag h = refl
value_is (Int a) (Int b) h = ap Int ((signed_Decides a b).0 h)
value_is (Vec3 a) (Vec3 b) h = ap Vec3 ((pointwise_decides signed_Decides a b).0 h)
value_is (Text a) (Text b) h = ap Text ((bytes_decides a b).0 h)
value_is (Link a) (Link b) h = ap Link (same_is a b h)
value_is a b h = absurd (let g : false ≡ true = h in cc)

value_self : (a : Value) → same_value a a ≡ true
value_self Tag = refl
value_self (Int n) = (signed_Decides n n).1 refl
value_self (Vec3 parts) = (pointwise_decides signed_Decides parts parts).1 refl
value_self (Text bytes) = (bytes_decides bytes bytes).1 refl
value_self (Link e) = same_self e

value_decides : (a b : Value) → Decides (same_value a b) (a ≡ b)
value_decides = decides_by same_value value_is value_self

-- cells by their fields, as two ticks with a value
pub cell_decides : (a b : Cell) → Decides (same_cell a b) (a ≡ b)
cell_decides a b =
    let parts = pair_decides (λ (p q : ℕ × ℕ). nat_eq p.0 q.0 && nat_eq p.1 q.1) same_value (pair_decides nat_eq nat_eq unsigned_Decides unsigned_Decides) value_decides
    ((a.added, a.changed), a.value) ((b.added, b.changed), b.value) in (
      λ h. ap (λ (p : (ℕ × ℕ) × Value). record { value = p.1; added = p.0.0; changed = p.0.1 }) (parts.0 h),
      λ e. parts.1 (ap (λ (c : Cell). ((c.added, c.changed), c.value)) e),
    )

cells_decides : (a b : List (ℕ × Cell)) → Decides (same_cells a b) (a ≡ b)
cells_decides = pointwise_decides (pair_decides nat_eq same_cell unsigned_Decides cell_decides)

pub row_decides : (a b : Row) → Decides (same_row a b) (a ≡ b)
row_decides a b =
    let parts = pair_decides is_same same_cells entity_decides cells_decides (a.entity, a.cells) (b.entity, b.cells) in (
      λ h. ap (λ (p : Entity × List (ℕ × Cell)). record { entity = p.0; cells = p.1 }) (parts.0 h),
      λ e. parts.1 (ap (λ (r : Row). (r.entity, r.cells)) e),
    )

pub home_decides : (a b : Home) → Decides (same_home a b) (a ≡ b)
home_decides a b =
    let parts = pair_decides nat_eq nat_eq unsigned_Decides unsigned_Decides (a.mask, a.place) (b.mask, b.place) in (
      λ h. ap (λ (p : ℕ × ℕ). record { mask = p.0; place = p.1 }) (parts.0 h),
      λ e. parts.1 (ap (λ (g : Home). (g.mask, g.place)) e),
    )

pub link_decides : (a b : Entity × ℕ) → Decides (same_link a b) (a ≡ b)
link_decides = pair_decides is_same nat_eq entity_decides unsigned_Decides
