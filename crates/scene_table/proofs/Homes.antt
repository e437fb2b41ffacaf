-- The home of an entity: where the search finds it its row stands, and an entity that has a row is found.
use Rattle.std.proofs.Common.{◌≡◌, ℕ, zero, suc, true, false, cond, T, List, [], ◌∷◌, refl, ap, subst, sym, ◌∙◌, Some, None}
use Rattle.std.specs.Prelude.{slice_get, option_map, is_some}
use Rattle.std.specs.Option.{option_or}
use Rattle.std.specs.Ordering.{nat_cmp, eq_by_cmp, is_eq, is_lt}
use Rattle.std.specs.Cmp.{nat_cmp_total}
use Rattle.std.specs.declared.cmp.Ordering.{Ordering}
use Rattle.std.specs.declared.cmp.Ordering.TheVariants.{Less, Equal, Greater}
use Rattle.std.specs.FinMap.{nat_cmp-IsAntisymmetric}
use Rattle.std.specs.FinMap.Entries.{find, is_sorted, below_all}
use Rattle.std.proofs.lemmas.Option.{same_Some}
use Rattle.scene_kinds.specs.declared.entity.Entity.{Entity}
use Rattle.scene_kinds.specs.declared.cells.Row.{Row}
use Rattle.scene_kinds.specs.Entity.{entity_cmp_total, entity_cmp_exact, is_same}
use Rattle.scene_kinds.specs.Lists.{whole, listed}
use Rattle.scene_kinds.proofs.Choices.{test_parts}
use Rattle.scene_kinds.proofs.Maps.{equal_keys, ties_itself}
use Rattle.scene_table.specs.declared.home.Home.{Home}
use Rattle.scene_table.specs.Tables.{Tables, row_at, row_place, home_in, StandsOnce}
use Rattle.scene_kinds.proofs.Positions.{found, missed}

-- the row at a place of a list has an entity
pub record HasAt (rows : List Row) (p : ℕ) (e : Entity) : Type 0 where
  pub row : Row
  pub there : slice_get rows p ≡ Some row
  pub same : row.entity ≡ e

pub nowhere : (p : ℕ) (e : Entity) → HasAt [] p e → ⊥
nowhere p e h = absurd (let k : None ≡ Some h.row = h.there in cc)

-- a place that was found has the entity
pub place_found : (e : Entity) (rows : List Row) (i : ℕ) → row_place e rows ≡ Some i → HasAt rows i e
place_found e rows i h = found (λ (r : Row). is_same r.entity e) (λ xs k. HasAt xs k e)
    (λ r rs t. record { row = r; there = refl; same = equal_keys entity_cmp_exact r.entity e t })
    (λ r rs k t g. record { row = g.row; there = g.there; same = g.same })
    rows i h

-- a row of another entity before a list leaves it where it was, or nowhere
nowhere_more : (r : Row) (rs : List Row) (e : Entity) → is_same r.entity e ≡ false → ((p : ℕ) → HasAt rs p e → ⊥) → (p : ℕ) → HasAt (r ∷ rs) p e → ⊥
nowhere_more r rs e t none zero g =
    let u = same_Some r g.row g.there in
    let v : true ≡ false = sym (ties_itself entity_cmp_total e) ∙ ap (λ x. is_same x e) (sym (ap (λ x. x.entity) u ∙ g.same)) ∙ t in absurd (cc)
nowhere_more r rs e t none (suc p) g = none p (record { row = g.row; there = g.there; same = g.same })

-- where no place was found the entity has none
pub place_missed : (e : Entity) (rows : List Row) → row_place e rows ≡ None → (p : ℕ) → HasAt rows p e → ⊥
place_missed e rows h = missed (λ (r : Row). is_same r.entity e) (λ xs. (p : ℕ) → HasAt xs p e → ⊥) (λ p g. nowhere p e g) (λ r rs t none. nowhere_more r rs e t none) rows h

is_less : (o : Ordering) → T (is_lt o) → is_eq o ≡ false
is_less Less p = refl
is_less Equal p = absurd p
is_less Greater p = absurd p

-- a kind set below all others isn't among them
below_none : (m : ℕ) (es : List (ℕ × (Row × List Row))) → T (below_all nat_cmp m es) → find nat_cmp m es ≡ None
below_none m [] h = refl
below_none m (t ∷ ts) h =
    let p = test_parts (is_lt (nat_cmp m t.0)) (below_all nat_cmp m ts) h in
    ap (λ b. cond b (Some t.1) (find nat_cmp m ts)) (is_less (nat_cmp m t.0) p.0) ∙ below_none m ts p.1

-- the rows of a kind set among entries
abbrev pub rows_in : List (ℕ × (Row × List Row)) → ℕ → List Row
rows_in es m = listed (find nat_cmp m es)

pub home_sound : (e : Entity) (es : List (ℕ × (Row × List Row))) → T (is_sorted nat_cmp es) → (h : Home) → home_in e es ≡ Some h → HasAt (rows_in es h.mask) h.place e
home_sound e [] rising h is = absurd (let k : None ≡ Some h = is in cc)
home_sound e (t ∷ ts) rising h is =
    let parts = test_parts (below_all nat_cmp t.0 ts) (is_sorted nat_cmp ts) rising in
    elim (row_place e (whole t.1)) as (λ o. row_place e (whole t.1) ≡ o → option_or (option_map (λ (p : ℕ). record { mask = t.0; place = p }) o) (home_in e ts) ≡ Some h → HasAt (rows_in (t ∷ ts) h.mask) h.place e) [
      | Some p ↦ λ q s.
          let u : record { mask = t.0; place = p } ≡ h = cc in
          subst (λ (g : Home). HasAt (rows_in (t ∷ ts) g.mask) g.place e) u
          (subst (λ b. HasAt (listed (cond b (Some t.1) (find nat_cmp t.0 ts))) p e) (sym (ties_itself nat_cmp_total t.0)) (place_found e (whole t.1) p q))
      | None ↦ λ q s.
          let below = home_sound e ts parts.1 h s in
          elim (eq_by_cmp nat_cmp h.mask t.0) as (λ b. eq_by_cmp nat_cmp h.mask t.0 ≡ b → HasAt (listed (cond b (Some t.1) (find nat_cmp h.mask ts))) h.place e) [
            | true ↦ λ v. absurd (nowhere h.place e (subst (λ o. HasAt (listed o) h.place e) (ap (λ m. find nat_cmp m ts) (equal_keys nat_cmp-IsAntisymmetric h.mask t.0 v) ∙ below_none t.0 ts parts.0) below))
            | false ↦ λ v. below
          ] refl
    ] refl is

pub home_complete : (e : Entity) (es : List (ℕ × (Row × List Row))) → home_in e es ≡ None → (m p : ℕ) → HasAt (rows_in es m) p e → ⊥
home_complete e [] is m p g = nowhere p e g
home_complete e (t ∷ ts) is m p g =
    elim (row_place e (whole t.1)) as (λ o. row_place e (whole t.1) ≡ o → option_or (option_map (λ (p : ℕ). record { mask = t.0; place = p }) o) (home_in e ts) ≡ None → ⊥) [
      | Some k ↦ λ q s. absurd (cc)
      | None ↦ λ q s. elim (eq_by_cmp nat_cmp m t.0) as (λ b. HasAt (listed (cond b (Some t.1) (find nat_cmp m ts))) p e → ⊥) [
        | true ↦ λ v. place_missed e (whole t.1) q p v
        | false ↦ λ v. home_complete e ts s m p v
      ] g
    ] refl is

-- the row of an entity that has a home
pub record IsHome (t : Tables) (e : Entity) (h : Home) : Type 0 where
  pub row : Row
  pub there : row_at t h ≡ Some row
  pub same : row.entity ≡ e

pub home_found : (t : Tables) (e : Entity) (h : Home) → home_in e t.entries ≡ Some h → IsHome t e h
home_found t e h is = let k = home_sound e t.entries t.sorted h is in record { row = k.row; there = k.there; same = k.same }

-- an entity that has a row is found, and where each stands once it is found there
pub home_is : (t : Tables) (e : Entity) (h : Home) (r : Row) → StandsOnce t → row_at t h ≡ Some r → r.entity ≡ e → home_in e t.entries ≡ Some h
home_is t e h r once is same = elim (home_in e t.entries) as (λ o. home_in e t.entries ≡ o → o ≡ Some h) [
  | Some g ↦ λ q. let k = home_found t e g q in ap Some (once g h k.row r k.there is (k.same ∙ sym same))
  | None ↦ λ q. absurd (home_complete e t.entries q h.mask h.place (record { row = r; there = is; same = same }))
] refl

pub home_none : (t : Tables) (e : Entity) → ((h : Home) (r : Row) → row_at t h ≡ Some r → r.entity ≡ e → ⊥) → home_in e t.entries ≡ None
home_none t e absent = elim (home_in e t.entries) as (λ o. home_in e t.entries ≡ o → o ≡ None) [
  | Some g ↦ λ q. let k = home_found t e g q in absurd (absent g k.row k.there k.same)
  | None ↦ λ q. refl
] refl

-- an entity that has a row is alive, and one that is alive has a row
pub live_here : (t : Tables) (e : Entity) (h : Home) (r : Row) → row_at t h ≡ Some r → r.entity ≡ e → is_some (home_in e t.entries) ≡ true
live_here t e h r is same = elim (home_in e t.entries) as (λ o. home_in e t.entries ≡ o → is_some o ≡ true) [
  | Some g ↦ λ q. refl
  | None ↦ λ q. absurd (home_complete e t.entries q h.mask h.place (record { row = r; there = is; same = same }))
] refl

pub here_live : (t : Tables) (e : Entity) → is_some (home_in e t.entries) ≡ true → (h : Home) × IsHome t e h
here_live t e live = elim (home_in e t.entries) as (λ o. home_in e t.entries ≡ o → is_some o ≡ true → (h : Home) × IsHome t e h) [
  | Some g ↦ λ q s. (g, home_found t e g q)
  | None ↦ λ q s. absurd (let k : false ≡ true = s in cc)
] refl live
