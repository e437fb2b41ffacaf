use Rattle.std.proofs.Common.{◌≡◌, ◌∙◌, ◌<◌, length, true, false, ap, subst, sym, arith}
use Rattle.scene_alloc.specs.Slots.{SlotState, StoredSlots, takes_new_slot}
use Rattle.scene_alloc.proofs.Moves.{accepted}
use Rattle.scene_alloc.proofs.slots.Slots.take.Goals.{then-takes_new_slot+else-len-self+in_ok-reserve, else-takes_new_slot}
use Rattle.scene_alloc.proofs.slots.Slots.take.Goals as goal

-- a new slot is made only below the limit
pub take_reserved-requires-clause-accepted : goal.take_reserved-requires-clause-accepted
take_reserved-requires-clause-accepted c = accepted c.if-takes_new_slot.self.state (elim c.if-takes_new_slot.branch [
  | then-takes_new_slot+else-len-self+in_ok-reserve w ↦ λ h.
      let same = ap (λ (v : StoredSlots). v.state) w.self-is ∙ w.reserve.ensures.state ∙ sym (ap (λ (v : StoredSlots). v.state) c.self.view_is) in
      let below : length c.self.inside.generations.items < c.self.inside.limit = omega (arith, w.if-len-self.false, c.self.inside.generations.ok) in
      subst (λ (s : SlotState). length s.generations < s.limit) (sym same) below
  | else-takes_new_slot w ↦ λ h.
      let no : true ≡ false = sym h ∙ ap (λ (v : StoredSlots). takes_new_slot v.state) w.self-is ∙ sym w.if-takes_new_slot.ensures in
      absurd cc
])
