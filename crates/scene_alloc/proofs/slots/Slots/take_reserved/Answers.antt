use Rattle.std.proofs.Common.{◌≡◌, ◌∙◌, ap, sym, slice_index, arith}
use Rattle.std.proofs.lemmas.Grind.{elements}
use Rattle.scene_alloc.specs.Slots.{SlotState, StoredSlots, slots_of, take_of}
use Rattle.scene_alloc.proofs.Moves.{take-pop, after_pop}
use Rattle.scene_alloc.proofs.slots.Slots.take_reserved.Goals as goal

pub invariant_of-self : goal.invariant_of-self
invariant_of-self c =
    let s : SlotState = slots_of c.self.inside.limit c.self.inside.generations.items c.self.inside.free.items in
    record {
      sound = after_pop s c.pop.new.self.items c.in-Some.index c.self.invariant.sound c.in-Some.ensures.items;
      room = omega (arith, c.self.invariant.room, c.pop.ensures.capacity);
    }

pub returns-in-Some-clause-answer : goal.returns-in-Some-clause-answer
returns-in-Some-clause-answer c =
    let s : SlotState = slots_of c.self.inside.limit c.self.inside.generations.items c.self.inside.free.items in
    let read : c.index-generation.result.now ≡ slice_index c.self.inside.generations.items c.in-Some.index = grind (arith, elements, c.index-generation.ensures, c.in-Some.ensures.items, c.self.invariant.sound.in_range) in
    ap (λ (v : StoredSlots). take_of v.state) (sym c.self.view_is) ∙ take-pop s c.pop.new.self.items c.in-Some.index c.index-generation.result.now c.in-Some.ensures.items read
