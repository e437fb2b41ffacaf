-- What each condition of a move of slots says, as a record of its parts, and that the test decides it.
use Rattle.std.proofs.Common.{◌≡◌, ℕ, ◌+◌, ◌≤◌, Bool, true, false, [], length, Some, Decides, nat_eq, slice_get}
use Rattle.std.specs.Cmp.{unsigned_Decides, booleans_Decides}
use Rattle.scene_kinds.specs.declared.entity.Entity.{Entity}
use Rattle.scene_alloc.specs.Ends.{last}
use Rattle.scene_alloc.specs.Slots.{SlotState, is_free, retires, has_generation, can_release, is_fresh, can_untake, is_raised, can_unrelease}
use Rattle.scene_alloc.proofs.Decided.{both, as_parts, fails, where_flagged, by_flag, at_most, is_empty, same_options}

pub record CanRelease (s : SlotState) (e : Entity) : Type 0 where
  pub current : slice_get s.generations e.index ≡ Some e.generation
  pub not_free : is_free s e.index ≡ false

pub record IsFresh (s : SlotState) (e : Entity) : Type 0 where
  pub none_free : s.free ≡ []
  pub last_slot : e.index + 1 ≡ length s.generations
  pub first : e.generation ≡ 1

pub record CanUntake (s : SlotState) (e : Entity) (fresh : Bool) : Type 0 where
  pub current : slice_get s.generations e.index ≡ Some e.generation
  pub not_free : is_free s e.index ≡ false
  pub newest : fresh ≡ true → IsFresh s e

pub record IsRaised (s : SlotState) (e : Entity) : Type 0 where
  pub last_free : last s.free ≡ Some e.index
  pub raised : slice_get s.generations e.index ≡ Some (e.generation + 1)

pub record CanUnrelease (s : SlotState) (e : Entity) (retired : Bool) : Type 0 where
  pub begun : 1 ≤ e.generation
  pub flag : retired ≡ retires e
  pub kept : retired ≡ true → CanRelease s e
  pub raised : retired ≡ false → IsRaised s e

module _ (s : SlotState) where
  generation_there : (index generation : ℕ) → Decides (has_generation s index generation) (slice_get s.generations index ≡ Some generation)
  generation_there index generation = same_options nat_eq unsigned_Decides _ _

  module _ (e : Entity) where
    pub release : Decides (can_release s e) (CanRelease s e)
    release =
        as_parts (both (generation_there e.index e.generation) (fails _)) (λ p. record { current = p.0; not_free = p.1 })
        (λ g. (g.current, g.not_free))

    pub fresh_there : Decides (is_fresh s e) (IsFresh s e)
    fresh_there =
        as_parts (both (both (is_empty _) (unsigned_Decides _ _)) (unsigned_Decides _ _))
        (λ p. record { none_free = p.0.0; last_slot = p.0.1; first = p.1 }) (λ g. ((g.none_free, g.last_slot), g.first))

    pub raised_there : Decides (is_raised s e) (IsRaised s e)
    raised_there =
        as_parts (both (same_options nat_eq unsigned_Decides _ _) (generation_there e.index (e.generation + 1)))
        (λ p. record { last_free = p.0; raised = p.1 }) (λ g. (g.last_free, g.raised))

    pub untake : (fresh : Bool) → Decides (can_untake s e fresh) (CanUntake s e fresh)
    untake fresh =
        as_parts (both release (where_flagged fresh fresh_there))
        (λ p. record { current = p.0.current; not_free = p.0.not_free; newest = p.1 })
        (λ g. (record { current = g.current; not_free = g.not_free }, g.newest))

    pub unrelease : (retired : Bool) → Decides (can_unrelease s e retired) (CanUnrelease s e retired)
    unrelease retired =
        as_parts (both (both (at_most _ _) (booleans_Decides retired (retires e))) (by_flag retired release raised_there))
        (λ p. record { begun = p.0.0; flag = p.0.1; kept = p.1.0; raised = p.1.1 }) (λ g. ((g.begun, g.flag), (g.kept, g.raised)))
