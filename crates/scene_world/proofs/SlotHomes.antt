-- Each slot keeps its home in the list of homes.
use Rattle.std.proofs.Common.{◌≡◌, ℕ, ◌<◌, ◌≤◌, Bool, true, false, List, [], ◌∷◌, ◌++◌, ◌+◌, length, if◌then◌else◌, Ok, arith, length-append, length-set}
use Rattle.std.specs.Prelude.{slice_set}
use Rattle.scene_kinds.specs.declared.entity.Entity.{Entity}
use Rattle.scene_alloc.specs.Ends.{front}
use Rattle.scene_alloc.specs.Slots.{SlotState, take_of, untake_of, release_of, unrelease_of, retires}
use Rattle.scene_alloc.proofs.Moves.{take_cases}

-- a new slot has one where there is a home for its entity
pub home_of_taken : (s : SlotState) (e : Entity) (t : SlotState) (homes : ℕ) → take_of s ≡ Ok (e, t) → length s.generations ≤ homes → e.index < homes → length t.generations ≤ homes
home_of_taken s e t homes taken all here =
    take_cases s (λ x y. x.index < homes → length y.generations ≤ homes) (λ i at l. all) (λ none few l. omega (arith, length-append s.generations (1 ∷ []))) e t taken here

-- the other moves make no slot
shorter : (xs : List ℕ) → length (front xs) ≤ length xs
shorter [] = omega arith
shorter (x ∷ []) = omega arith
shorter (x ∷ y ∷ ys) = let k = shorter (y ∷ ys) in omega arith

pub no_more_untaken : (s : SlotState) (e : Entity) (fresh : Bool) → length (untake_of s e fresh).generations ≤ length s.generations
no_more_untaken s e true = shorter s.generations
no_more_untaken s e false = omega arith

pub no_more_released : (s : SlotState) (e : Entity) → length (release_of s e).generations ≤ length s.generations
no_more_released s e = elim (retires e) as (λ b. length (if b then s else record s { generations = slice_set s.generations e.index (e.generation + 1); free = s.free ++ e.index ∷ [] }).generations ≤ length s.generations) [
  | true ↦ omega arith
  | false ↦ omega (arith, length-set s.generations e.index (e.generation + 1))
]

pub no_more_unreleased : (s : SlotState) (e : Entity) (retired : Bool) → length (unrelease_of s e retired).generations ≤ length s.generations
no_more_unreleased s e true = omega arith
no_more_unreleased s e false = omega (arith, length-set s.generations e.index e.generation)
