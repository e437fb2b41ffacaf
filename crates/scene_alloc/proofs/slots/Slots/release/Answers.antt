use Rattle.std.proofs.Common.{◌≡◌, ◌+◌, false, length-set, subst, sym, arith}
use Rattle.std.proofs.lemmas.Bool.Decides.{nat_tests}
use Rattle.scene_alloc.specs.Slots.{SlotState, StoredSlots, IsSlots, retires, slots_of}
use Rattle.scene_alloc.proofs.Moves.{room_left, IsSlots-freed, freed}
use Rattle.scene_alloc.proofs.SlotParts.{CanRelease, release}
use Rattle.scene_alloc.proofs.slots.Slots.release.Goals as goal

pub push_reserved-requires : goal.push_reserved-requires
push_reserved-requires c =
    let s : SlotState = slots_of c.self.inside.limit c.self.inside.generations.items c.self.inside.free.items in
    let can : CanRelease s c.args.entity = subst (λ (v : StoredSlots). CanRelease v.state c.args.entity) (sym c.self.view_is) ((release _ _).0 c.requires) in
    let l = room_left s c.args.entity c.self.invariant.sound can in
    omega (arith, c.self.invariant.room, c.self.inside.free.ok)

pub invariant_of-self : goal.invariant_of-self
invariant_of-self c =
    let s : SlotState = slots_of c.self.inside.limit c.self.inside.generations.items c.self.inside.free.items in
    let can : CanRelease s c.args.entity = subst (λ (v : StoredSlots). CanRelease v.state c.args.entity) (sym c.self.view_is) ((release _ _).0 c.requires) in
    let stays : retires c.args.entity ≡ false = grind (arith, nat_tests, c.if-entity-eq4294967295.false) in
    record {
      sound = subst (λ f. IsSlots (record (freed s c.args.entity) { free = f })) (sym c.push_reserved.ensures.items) (IsSlots-freed s c.args.entity c.self.invariant.sound can stays);
      room = omega (arith, length-set s.generations c.args.entity.index (c.args.entity.generation + 1), c.self.invariant.room, c.push_reserved.ensures.capacity);
    }
