-- Slots whose lists are written out are sound by recursion over them.
use Rattle.std.proofs.Common.{ℕ, ◌<◌, ◌≤◌, nat_eq, List, length}
use Rattle.std.specs.List.{AllByRecursion, IsDistinct}
use Rattle.std.proofs.lemmas.List.Elements.{All-from_recursion}
use Rattle.scene_alloc.specs.Slots.{IsSlots, most_slots, highest, slots_of}

pub IsSlots-written : (limit : ℕ) (generations free : List ℕ) → 1 ≤ limit → limit ≤ most_slots → length generations ≤ limit
    → AllByRecursion (λ g. 1 ≤ g) generations → AllByRecursion (λ g. g ≤ highest) generations → AllByRecursion (λ i. i < length generations) free
    → IsDistinct nat_eq free → IsSlots (slots_of limit generations free)
IsSlots-written limit generations free some_limit low_limit few begun low in_range distinct = record {
  some_limit = some_limit;
  low_limit = low_limit;
  few = few;
  begun = All-from_recursion (λ g. 1 ≤ g) generations begun;
  low = All-from_recursion (λ g. g ≤ highest) generations low;
  in_range = All-from_recursion (λ i. i < length generations) free in_range;
  distinct = distinct;
}
