-- The homes by index are those of the live entities.
use Rattle.std.proofs.Common.{◌≡◌, ◌∙◌, ℕ, zero, suc, ◌<◌, List, [], ◌∷◌, length, take, refl, ap, sym, arith, Option, Some, None}
use Rattle.std.specs.Prelude.{slice_get, slice_index}
use Rattle.std.specs.Option.{option_flatten}
use Rattle.std.proofs.lemmas.Option.{slice_get_within, get_or_from_slice_get}
use Rattle.scene_kinds.specs.declared.entity.Entity.{Entity}
use Rattle.scene_table.specs.declared.home.Home.{Home}
use Rattle.scene_table.proofs.Homes.{home_found, home_is}
use Rattle.scene_archetypes.specs.Archetypes.{AreHomes}
use Rattle.scene_model.specs.World.{World, home_of}
use Rattle.scene_model.specs.Valid.{IsValid}
use Rattle.scene_world.specs.Homes.{home_of_index}

-- what stands in the first of a list stands in the list, and the reverse
in_first : {X : Type 0} (xs : List X) (n i : ℕ) → i < n → slice_get (take n xs) i ≡ slice_get xs i
in_first [] zero i l = refl
in_first [] (suc n) i l = refl
in_first (x ∷ xs) zero i l = absurd (omega (arith, l))
in_first (x ∷ xs) (suc n) zero l = refl
in_first (x ∷ xs) (suc n) (suc i) l = in_first xs n i (omega (arith, l))

from_first : {X : Type 0} (xs : List X) (n i : ℕ) (x : X) → slice_get (take n xs) i ≡ Some x → slice_get xs i ≡ Some x
from_first [] zero i x h = h
from_first [] (suc n) i x h = h
from_first (y ∷ xs) zero i x h = absurd (let k : None ≡ Some x = h in cc)
from_first (y ∷ xs) (suc n) zero x h = h
from_first (y ∷ xs) (suc n) (suc i) x h = from_first xs n i x h

module _ (w : World) (homes : List (Option Home)) (count i : ℕ) (v : IsValid w) (are : AreHomes w.tables homes) (all : count ≡ length w.slots.generations) where
  abbrev here : Entity
  here = record { index = i; generation = slice_index w.slots.generations i }

  -- the home of a live entity is listed
  listed : (h : Home) → home_of w here ≡ Some h → option_flatten (slice_get (take count homes) i) ≡ Some h
  listed h is =
      let k = home_found w.tables here h is in
      let at : slice_get homes i ≡ Some (Some h) = ap (slice_get homes) (sym (ap (λ (e : Entity). e.index) k.same)) ∙ are.kept h k.row k.there in
      let slot = slice_get_within w.slots.generations k.row.entity.index k.row.entity.generation (v.rows.each h k.row k.there).current in
      let low : i < count = omega (arith, all, slot, ap (λ (e : Entity). e.index) k.same) in
      ap option_flatten (in_first homes count i low ∙ at)

  -- and what is listed is that of a live one
  found : (h : Home) → slice_get (take count homes) i ≡ Some (Some h) → home_of w here ≡ Some h
  found h at =
      let k = are.found i h (from_first homes count i (Some h) at) in
      let current = (v.rows.each h k.0 k.1.0).current in
      let generation : k.0.entity.generation ≡ slice_index w.slots.generations i = sym (ap (slice_index w.slots.generations) (sym k.1.1) ∙ get_or_from_slice_get w.slots.generations k.0.entity.index k.0.entity.generation 0 current) in
      home_is w.tables here h k.0 v.rows.once k.1.0 (λ j. record { index = k.1.1 j; generation = generation j })

  pub each_home : option_flatten (slice_get (take count homes) i) ≡ home_of_index w i
  each_home = elim (home_of w here) as (λ o. home_of w here ≡ o → option_flatten (slice_get (take count homes) i) ≡ o) [
    | Some h ↦ λ is. listed h is
    | None ↦ λ is. elim (slice_get (take count homes) i) as (λ o. slice_get (take count homes) i ≡ o → option_flatten o ≡ None) [
      | None ↦ λ at. refl
      | Some o ↦ λ at. elim o as (λ p. slice_get (take count homes) i ≡ Some p → option_flatten (Some p) ≡ None) [
        | None ↦ λ at. refl
        | Some h ↦ λ at. absurd (let no : None ≡ Some h = sym is ∙ found h at in cc)
      ] at
    ] refl
  ] refl
