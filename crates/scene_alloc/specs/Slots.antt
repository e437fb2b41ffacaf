-- The slots of entities: the generations by index, the free list, and the four moves on them.
use Rattle.std.specs.Prelude.{◌≡◌, ◌≢◌, ◌⊎◌, ℕ, ◌+◌, ◌≤◌, ◌<◌, Bool, true, false, not, ◌&&◌, ◌||◌, if◌then◌else◌, nat_eq, nat_lt, nat_le, List, [], ◌∷◌, ◌++◌, length, slice_get, slice_index, slice_set, Option, Some, None, Ok, All}
use Rattle.std.specs.Bool.{beq}
use Rattle.std.specs.List.{list_any, IsDistinct}
use Rattle.std.specs.Option.{option_eq}
use Rattle.scene_kinds.specs.declared.entity.Entity.{Entity}
use Rattle.scene_kinds.specs.declared.fault.Fault.TheVariants.{EntitiesFull}
use Rattle.scene_kinds.specs.Answers.{Outcome, refuse}
use Rattle.scene_alloc.specs.Ends.{last, front}

-- how many slots there may be, the generation of each by index, and the free indices, first to last
pub record SlotState : Type 0 where
  pub limit : ℕ
  pub generations : List ℕ
  pub free : List ℕ

-- the slots, and for how many of them there is memory
pub record StoredSlots : Type 0 where
  pub state : SlotState
  pub capacity : ℕ

-- there is memory for this many more new slots
abbrev pub HasRoom : StoredSlots → ℕ → Type 0
HasRoom s n = length s.state.generations + n ≤ s.capacity

-- the slots with a limit, these generations by index, and this free list
abbrev pub slots_of : ℕ → List ℕ → List ℕ → SlotState
slots_of limit generations free = record { limit = limit; generations = generations; free = free }

-- no limit is above this
abbrev pub most_slots : ℕ
most_slots = 1048576

-- the generation at which an index is retired, the greatest of 32 bits
abbrev pub highest : ℕ
highest = 4294967295

-- no slot yet
abbrev pub new_slots : ℕ → SlotState
new_slots limit = slots_of limit [] []

-- an index stands in the free list
abbrev pub is_free : SlotState → ℕ → Bool
is_free s i = list_any (nat_eq i) s.free

-- no index is free, so that the next entity takes a new slot; else it reuses an index
abbrev pub takes_new_slot : SlotState → Bool
takes_new_slot s = nat_eq (length s.free) 0

-- a new slot, of generation 1, goes last
abbrev pub take_new : SlotState → Outcome Entity SlotState
take_new s =
    if nat_lt (length s.generations) s.limit
    then Ok (record { index = length s.generations; generation = 1 }, record s { generations = s.generations ++ 1 ∷ [] })
    else refuse EntitiesFull

-- a free index, the last of the list, leaves the list and keeps its slot's generation; else a new slot
abbrev pub take_from : SlotState → Option ℕ → Outcome Entity SlotState
take_from s None = take_new s
take_from s (Some i) = Ok (record { index = i; generation = slice_index s.generations i }, record s { free = front s.free })

-- a new entity: the last free index with its generation, else a new slot
abbrev pub take_of : SlotState → Outcome Entity SlotState
take_of s = take_from s (last s.free)

-- an entity of the highest generation is the last one of its index
abbrev pub retires : Entity → Bool
retires e = nat_eq e.generation highest

-- the generation rises and the index goes last in the free list; at the highest generation both stay
abbrev pub release_of : SlotState → Entity → SlotState
release_of s e =
    if retires e then s
    else record s { generations = slice_set s.generations e.index (e.generation + 1); free = s.free ++ e.index ∷ [] }

-- the way back of a take: the new slot goes, or the reused index is the last free one again
abbrev pub untake_of : SlotState → Entity → Bool → SlotState
untake_of s e true = record s { generations = front s.generations }
untake_of s e false = record s { free = s.free ++ e.index ∷ [] }

-- the way back of a release: the slot has the entity's generation again, and the last free index goes
abbrev pub unrelease_of : SlotState → Entity → Bool → SlotState
unrelease_of s e true = s
unrelease_of s e false = record s { generations = slice_set s.generations e.index e.generation; free = front s.free }

-- what always holds of slots
pub record IsSlots (s : SlotState) : Type 0 where
  pub some_limit : 1 ≤ s.limit
  pub low_limit : s.limit ≤ most_slots
  -- no more slots than the limit
  pub few : length s.generations ≤ s.limit
  -- each generation is 1 to the highest
  pub begun : All (λ g. 1 ≤ g) s.generations
  pub low : All (λ g. g ≤ highest) s.generations
  -- each free index has a slot, and stands once in the list
  pub in_range : All (λ i. i < length s.generations) s.free
  pub distinct : IsDistinct nat_eq s.free

-- a slot has this generation
abbrev pub has_generation : SlotState → ℕ → ℕ → Bool
has_generation s index generation = option_eq nat_eq (slice_get s.generations index) (Some generation)

-- an entity may be released: it has its slot's generation, and its index isn't free
abbrev pub can_release : SlotState → Entity → Bool
can_release s e = has_generation s e.index e.generation && not (is_free s e.index)

-- an entity has the last slot, just made, as where no index was free
abbrev pub is_fresh : SlotState → Entity → Bool
is_fresh s e = takes_new_slot s && nat_eq (e.index + 1) (length s.generations) && nat_eq e.generation 1

-- the state after a take of this entity, from a new slot or not
abbrev pub can_untake : SlotState → Entity → Bool → Bool
can_untake s e fresh = can_release s e && (not fresh || is_fresh s e)

-- an index was released last: it is the last free one, and its generation is one above the entity's
abbrev pub is_raised : SlotState → Entity → Bool
is_raised s e = option_eq nat_eq (last s.free) (Some e.index) && has_generation s e.index (e.generation + 1)

-- the state after a release of this entity, which retired its index or not
abbrev pub can_unrelease : SlotState → Entity → Bool → Bool
can_unrelease s e retired =
    nat_le 1 e.generation && beq retired (retires e) && (if retired then can_release s e else is_raised s e)

-- another state of the same slots, but for one index: every other one has its generation, and is free or not as before
pub record SameElsewhere (s t : SlotState) (index : ℕ) : Type 0 where
  pub generations : (i : ℕ) → i ≢ index → slice_get t.generations i ≡ slice_get s.generations i
  pub free : (i : ℕ) → i ≢ index → is_free t i ≡ is_free s i

-- no living entity has this index: it is free, or has no slot
abbrev pub IsUnused : SlotState → ℕ → Type 0
IsUnused s index = (is_free s index ≡ true) ⊎ (slice_get s.generations index ≡ None)
