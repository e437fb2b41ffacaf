-- Where it is known that deltas can be taken back or made again, but not how, it is found how.
use Rattle.std.proofs.Common.{◌≡◌, ◌≤◌, ℕ, Bool, true, List, [], ◌∷◌, length}
use Rattle.std.specs.List.{list_any}
use Rattle.std.proofs.Math.Logic.{∥∥₁_elim}
use Rattle.std.proofs.Props.{props}
use Rattle.std.specs.Prelude.{Contains}
use Rattle.std.specs.Cmp.{eq_by_cmp_equiv}
use Rattle.std.specs.Ordering.{is_eq}
use Rattle.std.proofs.lemmas.Map.Views.{list_any-from_Contains, Contains-from_any}
use Rattle.scene_kinds.proofs.Maps.{equal_keys}
use Rattle.scene_resources.specs.Resources.{name_cmp, name_cmp_total, name_cmp_exact}
use Rattle.scene_links.specs.Room.{Holds as HoldsLinks}
use Rattle.scene_model.specs.World.{World}
use Rattle.scene_world.specs.Room.{Room, Holds}
use Rattle.scene_deltas.specs.declared.delta.Delta.{Delta}
use Rattle.scene_deltas.specs.Deltas.{fits_back, fits_on, back, fwd, back_all, AllFitBack, AllFitOn}
use Rattle.scene_deltas.specs.Ready.{AreReady, AreReadyOn}

at_most-prop : (m n : ℕ) → IsProp (m ≤ n)
at_most-prop m n = Prim.hlevel props

links-prop : (room : Room) (w : World) → IsProp (HoldsLinks room.lists w.children)
links-prop room w = Prim.hlevel props

pub passes-prop : (b : Bool) → IsProp (b ≡ true)
passes-prop b = Prim.hlevel props

-- a name is looked for among those kept
abbrev is_kept : List (List ℕ) → List ℕ → Bool
is_kept names name = list_any (λ n. is_eq (name_cmp name n)) names

name_told : (names : List (List ℕ)) (name : List ℕ) → Contains names name → is_kept names name ≡ true
name_told names name h = list_any-from_Contains (eq_by_cmp_equiv name_cmp_total) name names h

names_found : (names : List (List ℕ)) (name : List ℕ) → is_kept names name ≡ true → Contains names name
names_found names name h = Contains-from_any (equal_keys name_cmp_exact) name names h

module _ (P : Type 0) (known : ∥ P ∥₁) where
  held : (room : Room) (w : World) → (P → Holds room w) → Holds room w
  held room w get = record {
    slots = ∥∥₁_elim known (at_most-prop (length w.slots.generations) room.slots) (λ p. (get p).slots);
    rows = ∥∥₁_elim known (Prim.hlevel props) (λ p. (get p).rows);
    links = ∥∥₁_elim known (links-prop room w) (λ p. (get p).links);
    names = record { each = λ name some. names_found room.names name (∥∥₁_elim known (passes-prop (is_kept room.names name)) (λ p. name_told room.names name ((get p).names.each name some))) };
  }

  pub each_ready : (room : Room) (ds : List Delta) (w : World) → (P → AreReady room ds w) → AreReady room ds w
  each_ready room [] w get = tt
  each_ready room (d ∷ ds) w get = (
    each_ready room ds w (λ p. (get p).0),
    record {
      fits = ∥∥₁_elim known (passes-prop (fits_back d (back_all ds w))) (λ p. (get p).1.fits);
      held = held room (back d (back_all ds w)) (λ p. (get p).1.held);
    },
  )

  pub each_fits_back : (ds : List Delta) (w : World) → (P → AllFitBack ds w) → AllFitBack ds w
  each_fits_back [] w get = tt
  each_fits_back (d ∷ ds) w get = (each_fits_back ds w (λ p. (get p).0), ∥∥₁_elim known (passes-prop (fits_back d (back_all ds w))) (λ p. (get p).1))

  pub each_fits_on : (ds : List Delta) (w : World) → (P → AllFitOn ds w) → AllFitOn ds w
  each_fits_on [] w get = tt
  each_fits_on (d ∷ ds) w get = (∥∥₁_elim known (passes-prop (fits_on d w)) (λ p. (get p).0), each_fits_on ds (fwd d w) (λ p. (get p).1))

  pub each_ready_on : (room : Room) (ds : List Delta) (w : World) → (P → AreReadyOn room ds w) → AreReadyOn room ds w
  each_ready_on room [] w get = tt
  each_ready_on room (d ∷ ds) w get = (
    record {
      fits = ∥∥₁_elim known (passes-prop (fits_on d w)) (λ p. (get p).0.fits);
      held = held room (fwd d w) (λ p. (get p).0.held);
    },
    each_ready_on room ds (fwd d w) (λ p. (get p).1),
  )

pub found_ready : (room : Room) (ds : List Delta) (w : World) → ∥ AreReady room ds w ∥₁ → AreReady room ds w
found_ready room ds w known = each_ready (AreReady room ds w) known room ds w (λ r. r)
