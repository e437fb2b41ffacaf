use Rattle.std.proofs.Common.{◌≤◌, length, subst, sym, arith, vec_capacity}
use Rattle.std.proofs.Math.Nat.{min-le_right}
use Rattle.scene_alloc.specs.Slots.{SlotState, StoredSlots, HasRoom, slots_of}
use Rattle.scene_alloc.proofs.Moves.{few_free}
use Rattle.scene_alloc.proofs.slots.Slots.reserve.Goals as goal

pub overflow_sub-len : goal.overflow_sub-len
overflow_sub-len c =
    let s : SlotState = slots_of c.self.inside.limit c.self.inside.generations.items c.self.inside.free.items in
    let few : length s.free ≤ length s.generations = few_free s c.self.invariant.sound in
    omega (arith, few, c.self.inside.free.ok, c.self.inside.generations.ok)

pub returns-in_err-reserve-clause-there : goal.returns-in_err-reserve-clause-there
returns-in_err-reserve-clause-there c = λ h.
    let s : SlotState = slots_of c.self.inside.limit c.self.inside.generations.items c.self.inside.free.items in
    let few : length s.free ≤ length s.generations = few_free s c.self.invariant.sound in
    let room = subst (λ (v : StoredSlots). HasRoom v c.args.additional) (sym c.self.view_is) h in
    let low = min-le_right (vec_capacity c.self.inside.generations) (vec_capacity c.self.inside.free) in
    absurd (omega (arith, few, room, low, c.in_err-reserve.ensures.full, c.self.inside.free.ok, c.self.inside.generations.ok))
