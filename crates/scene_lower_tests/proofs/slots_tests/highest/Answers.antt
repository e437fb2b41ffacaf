use Rattle.std.proofs.Common.{◌∷◌, [], sym, subst₂, arith}
use Rattle.std.specs.List.{IsDistinct}
use Rattle.scene_alloc.specs.Slots.{IsSlots, slots_of}
use Rattle.scene_alloc.proofs.Written.{IsSlots-written}
use Rattle.scene_lower_tests.proofs.slots_tests.highest.Goals as goal

written : IsSlots (slots_of 2 (4294967295 ∷ []) [])
unfolding IsDistinct
written = IsSlots-written 2 (4294967295 ∷ []) [] (omega arith) (omega arith) (omega arith) (omega arith, tt) (omega arith, tt) tt tt

pub from_lists-requires : goal.from_lists-requires
from_lists-requires c = subst₂ (λ g f. IsSlots (slots_of 2 g f)) (sym c.in_ok-vec.ensures.items) (sym c.new.ensures.items) written
