-- How many rows a kind set of a valid world has: no more than there are slots.
use Rattle.std.proofs.Common.{◌≡◌, ℕ, zero, suc, ◌<◌, ◌≤◌, true, false, nat_eq, List, [], ◌∷◌, length, get_or, Some, refl, ap, sym, subst, ◌∙◌, arith, slice_get}
use Rattle.std.specs.Prelude.{map as each, All}
use Rattle.std.proofs.lemmas.Bool.{eqb-true}
use Rattle.std.proofs.lemmas.List.{length-map}
use Rattle.std.proofs.lemmas.Map.Keys.{IsDistinct-from_apart}
use Rattle.std.proofs.lemmas.Option.{slice_get_within}
use Rattle.scene_kinds.specs.declared.entity.Entity.{Entity}
use Rattle.scene_kinds.specs.declared.cells.Row.{Row}
use Rattle.scene_alloc.proofs.SlotLaws.{few_distinct}
use Rattle.scene_table.specs.declared.home.Home.{Home}
use Rattle.scene_model.specs.World.{World}
use Rattle.scene_table.specs.Tables.{rows_at, row_at}
use Rattle.scene_model.specs.Valid.{IsValid}

-- the indices of the entities of rows
abbrev indices : List Row → List ℕ
indices rows = each (λ r. r.entity.index) rows

-- a row within its list is there, and its index is read at its place
row_there : (rows : List Row) (i d : ℕ) → i < length rows → (r : Row) × ((slice_get rows i ≡ Some r) × (get_or (indices rows) i d ≡ r.entity.index))
row_there [] i d l = absurd (omega arith)
row_there (r ∷ rows) zero d l = (r, (refl, refl))
row_there (r ∷ rows) (suc i) d l = row_there rows i d (omega arith)

-- current entities of one index are equal
same_entity : (generations : List ℕ) (a b : Entity) → slice_get generations a.index ≡ Some a.generation → slice_get generations b.index ≡ Some b.generation → a.index ≡ b.index → a ≡ b
same_entity generations a b x y e =
    let s : Some a.generation ≡ Some b.generation = sym x ∙ (ap (slice_get generations) e ∙ y) in
    let g : a.generation ≡ b.generation = cc in
    λ i. record { index = e i; generation = g i }

-- the rows of a kind set have distinct indices below the number of slots
pub rows_few : (w : World) → IsValid w → (mask : ℕ) → length (rows_at w.tables mask) ≤ length w.slots.generations
rows_few w v mask =
    subst (λ n. n ≤ length w.slots.generations) (length-map (rows_at w.tables mask) (λ r. r.entity.index))
    (few_distinct (length w.slots.generations) (indices (rows_at w.tables mask)) (IsDistinct-from_apart nat_eq (indices (rows_at w.tables mask)) apart) below)
  where
    below : All (λ i. i < length w.slots.generations) (indices (rows_at w.tables mask))
    below i d l =
        let g = row_there (rows_at w.tables mask) i d (subst (λ n. i < n) (length-map (rows_at w.tables mask) (λ r. r.entity.index)) l) in
        subst (λ x. x < length w.slots.generations) (sym g.1.1) (slice_get_within w.slots.generations g.0.entity.index g.0.entity.generation (v.rows.each (record { mask = mask; place = i }) g.0 g.1.0).current)

    apart : (i j d : ℕ) → i < j → j < length (indices (rows_at w.tables mask)) → nat_eq (get_or (indices (rows_at w.tables mask)) i d) (get_or (indices (rows_at w.tables mask)) j d) ≡ false
    apart i j d l m =
        let n = length-map (rows_at w.tables mask) (λ r. r.entity.index) in
        let a = row_there (rows_at w.tables mask) i d (omega arith) in
        let b = row_there (rows_at w.tables mask) j d (omega arith) in
        elim (nat_eq (get_or (indices (rows_at w.tables mask)) i d) (get_or (indices (rows_at w.tables mask)) j d)) as (λ t. nat_eq (get_or (indices (rows_at w.tables mask)) i d) (get_or (indices (rows_at w.tables mask)) j d) ≡ t → t ≡ false) [
          | true ↦ λ p.
              let index : a.0.entity.index ≡ b.0.entity.index = sym a.1.1 ∙ (eqb-true _ _ p ∙ b.1.1) in
              let entity = same_entity w.slots.generations a.0.entity b.0.entity (v.rows.each (record { mask = mask; place = i }) a.0 a.1.0).current (v.rows.each (record { mask = mask; place = j }) b.0 b.1.0).current index in
              let home = v.rows.once (record { mask = mask; place = i }) (record { mask = mask; place = j }) a.0 b.0 a.1.0 b.1.0 entity in
              let place : i ≡ j = ap (λ (h : Home). h.place) home in
              absurd (omega arith)
          | false ↦ λ p. refl
        ] refl

-- a valid world has few slots, so the place of a row is low
pub place_low : (w : World) → IsValid w → (h : Home) (r : Row) → row_at w.tables h ≡ Some r → h.place < 1048576
place_low w v h r e =
    let within = slice_get_within (rows_at w.tables h.mask) h.place r e in
    omega (arith, rows_few w v h.mask, v.slots.low_limit, v.slots.few)
