-- A world in which one entity's row, slot and links changed is valid, where what changed is sound.
use Rattle.std.proofs.Common.{◌≡◌, ℕ, ◌<◌, true, false, ◌||◌, nat_eq, length, refl, ap, subst, sym, ◌∙◌, Some, slice_get, slice_index}
use Rattle.std.proofs.lemmas.Bool.{or_right, eqb-true, eqb-false}
use Rattle.std.proofs.lemmas.Option.{slice_get_within}
use Rattle.scene_kinds.specs.declared.entity.Entity.{Entity}
use Rattle.scene_kinds.specs.declared.cells.Row.{Row}
use Rattle.scene_alloc.specs.Slots.{SlotState, IsSlots, SameElsewhere, is_free}
use Rattle.scene_links.specs.Forest.{Forest}
use Rattle.scene_table.specs.declared.home.Home.{Home}
use Rattle.scene_model.specs.World.{World}
use Rattle.scene_table.specs.Tables.{Tables, row_at, lives}
use Rattle.scene_model.specs.Valid.{IsValid, IsSoundRow, RowsAreSound, LinksAreSound, is_live_index, is_retired}
use Rattle.scene_model.proofs.Choices.{read, there, one_of, first_of_three, second_of_three}

abbrev pub with_parts : World → SlotState → Tables → Forest → World
with_parts w s t f = record w { slots = s; tables = t; children = f }

-- what changed is sound, and every other index and entity is as it was
pub record IsOneChange (w : World) (e : Entity) (s : SlotState) (t : Tables) (f : Forest) : Type 0 where
  pub slots : IsSlots s
  pub elsewhere : SameElsewhere w.slots s e.index
  pub rows : RowsAreSound w.schema s w.tick t
  pub others : (x : Entity) → (x.index ≡ e.index → ⊥) → lives w.tables x ≡ true → lives t x ≡ true
  pub here : e.index < length s.generations → (is_live_index s t e.index || is_free s e.index || is_retired s e.index) ≡ true
  pub links : LinksAreSound t f

-- another index has its slot and its generation
old_slot : (s r : SlotState) (i k : ℕ) → SameElsewhere s r k → i < length r.generations → (i ≡ k → ⊥) → slice_get s.generations i ≡ Some (slice_index r.generations i)
old_slot s r i k same l ne = sym (same.generations i ne) ∙ there r.generations i l

-- and is accounted for as before
other_accounted : (w : World) (e : Entity) (s : SlotState) (t : Tables) (f : Forest) → IsValid w → IsOneChange w e s t f → (i : ℕ) → i < length s.generations → (i ≡ e.index → ⊥)
    → (is_live_index s t i || is_free s i || is_retired s i) ≡ true
other_accounted w e s t f v c i l ne =
    let slot = old_slot w.slots s i e.index c.elsewhere l ne in
    let kept : slice_index s.generations i ≡ slice_index w.slots.generations i = sym (read w.slots.generations i (slice_index s.generations i) slot) in
    one_of _ (is_live_index w.slots w.tables i) (is_free w.slots i) (is_retired w.slots i) (v.accounted i (slice_get_within w.slots.generations i _ slot))
    (λ a. first_of_three (is_live_index s t i) (is_free s i) (is_retired s i)
    (ap (λ (g : ℕ). lives t (record { index = i; generation = g })) kept ∙ c.others (record { index = i; generation = slice_index w.slots.generations i }) ne a))
    (λ b. second_of_three (is_live_index s t i) (is_free s i) (is_retired s i) (c.elsewhere.free i ne ∙ b))
    (λ b. or_right (is_live_index s t i || is_free s i) (is_retired s i) (ap (λ (g : ℕ). nat_eq g 4294967295) kept ∙ b))

pub changed_valid : (w : World) (e : Entity) (s : SlotState) (t : Tables) (f : Forest) → IsValid w → IsOneChange w e s t f → IsValid (with_parts w s t f)
changed_valid w e s t f v c = record {
  schema = v.schema;
  slots = c.slots;
  tick = v.tick;
  rows = c.rows;
  accounted = λ i l. elim (nat_eq i e.index) as (λ b. nat_eq i e.index ≡ b → (is_live_index s t i || is_free s i || is_retired s i) ≡ true) [
    | true ↦ λ q.
        let same : i ≡ e.index = eqb-true i e.index q in
        ap (λ (n : ℕ). is_live_index s t n || is_free s n || is_retired s n) same ∙ c.here (subst (λ (n : ℕ). n < length s.generations) same l)
    | false ↦ λ q. other_accounted w e s t f v c i l (eqb-false i e.index q)
  ] refl;
  links = c.links;
  resources = v.resources;
}

-- ---- rows of other indices

-- a sound row of another index is sound with the slots after
pub sound_elsewhere : (w : World) (s : SlotState) (k mask : ℕ) (row : Row) → SameElsewhere w.slots s k → (row.entity.index ≡ k → ⊥) → IsSoundRow w.schema w.slots w.tick mask row → IsSoundRow w.schema s w.tick mask row
sound_elsewhere w s k mask row same ne old = record {
  current = same.generations row.entity.index ne ∙ old.current;
  busy = same.free row.entity.index ne ∙ old.busy;
  fits = old.fits;
  timely = old.timely;
}

-- no two live entities share an index
pub same_entity : (w : World) (g h : Home) (r s : Row) → IsValid w → row_at w.tables g ≡ Some r → row_at w.tables h ≡ Some s → r.entity.index ≡ s.entity.index → r.entity ≡ s.entity
same_entity w g h r s v p q e =
    let k : Some r.entity.generation ≡ Some s.entity.generation = sym (v.rows.each g r p).current ∙ ap (slice_get w.slots.generations) e ∙ (v.rows.each h s q).current in
    let f : r.entity.generation ≡ s.entity.generation = cc in
    λ i. record { index = e i; generation = f i }

-- a world whose parts are what they were
pub parts_back : (w : World) (s : SlotState) (t : Tables) (f : Forest) → s ≡ w.slots → t ≡ w.tables → f ≡ w.children → with_parts w s t f ≡ w
parts_back w s t f a b c = λ i. with_parts w (a i) (b i) (c i)
