-- Laws of slots that users cite: what a take and a release leave, and that the free indices are few.
use Rattle.std.proofs.Common.{◌≡◌, ℕ, ◌<◌, ◌≤◌, nat_eq, List, [], ◌∷◌, ◌++◌, length, Some, Ok, All}
use Rattle.std.specs.List.{IsDistinct}
use Rattle.scene_kinds.specs.declared.entity.Entity.{Entity}
use Rattle.scene_alloc.specs.Ends.{last, front}
use Rattle.scene_alloc.specs.Slots.{SlotState, IsSlots, takes_new_slot, take_of, release_of}
use Rattle.scene_alloc.proofs.Ends as ends
use Rattle.scene_alloc.proofs.Moves as moves
use Rattle.scene_alloc.proofs.SlotParts.{CanRelease, CanUntake}
pub use Rattle.scene_alloc.proofs.Ends.{last-push}
pub use Rattle.scene_alloc.proofs.Elsewhere.{SameElsewhere-untake, SameElsewhere-unrelease}
pub use Rattle.scene_alloc.proofs.Moves.{IsSlots-untake, fresh_length, takes_new_slot-untake, take-untake, untake-take, CanRelease-unrelease, CanUnrelease-release, IsSlots-unrelease, release-unrelease, unrelease-release}

-- a take reuses the last free index, or, where none is free, makes a new slot below the limit
pub take_cases : (s : SlotState) (P : Entity → SlotState → Type 0)
    → ((i : ℕ) → last s.free ≡ Some i → P (moves.reused s i) (moves.after_reuse s))
    → (s.free ≡ [] → length s.generations < s.limit → P (moves.created s) (moves.after_new s))
    → (e : Entity) (t : SlotState) → take_of s ≡ Ok (e, t) → P e t
take_cases = moves.take_cases

-- slots stay slots
pub IsSlots-take : (s t : SlotState) (e : Entity) → IsSlots s → take_of s ≡ Ok (e, t) → IsSlots t
IsSlots-take = moves.IsSlots-take

pub IsSlots-release : (s : SlotState) (e : Entity) → IsSlots s → CanRelease s e → IsSlots (release_of s e)
IsSlots-release = moves.IsSlots-release

-- a take may be taken back: its entity has its slot's generation, and isn't free
pub CanUntake-take : (s t : SlotState) (e : Entity) → IsSlots s → take_of s ≡ Ok (e, t) → CanUntake t e (takes_new_slot s)
CanUntake-take = moves.CanUntake-take

-- the state after a release that retires nothing
abbrev pub freed : SlotState → Entity → SlotState
freed = moves.freed

-- the front of a list, and then its last, is the list
pub push-last : {X : Type 0} (xs : List X) (x : X) → last xs ≡ Some x → front xs ++ x ∷ [] ≡ xs
push-last = ends.push-last

-- distinct numbers below n are at most n
pub few_distinct : (n : ℕ) (xs : List ℕ) → IsDistinct nat_eq xs → All (λ i. i < n) xs → length xs ≤ n
few_distinct = moves.few_distinct
