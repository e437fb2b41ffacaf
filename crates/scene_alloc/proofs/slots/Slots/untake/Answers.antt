use Rattle.std.proofs.Common.{◌∙◌, true, false, ap, subst, sym, arith}
use Rattle.scene_alloc.specs.Slots.{SlotState, StoredSlots, IsSlots, slots_of, untake_of}
use Rattle.scene_alloc.proofs.Ends.{take-front}
use Rattle.scene_alloc.proofs.Moves.{room_left, CanRelease-from_untake, IsSlots-untake}
use Rattle.scene_alloc.proofs.SlotParts.{CanUntake, untake}
use Rattle.scene_alloc.proofs.slots.Slots.untake.Goals as goal

pub push_reserved-requires : goal.push_reserved-requires
push_reserved-requires c =
    let s : SlotState = slots_of c.self.inside.limit c.self.inside.generations.items c.self.inside.free.items in
    let can : CanUntake s c.args.entity c.args.fresh = subst (λ (v : StoredSlots). CanUntake v.state c.args.entity c.args.fresh) (sym c.self.view_is) ((untake _ _ _).0 c.requires) in
    let l = room_left s c.args.entity c.self.invariant.sound (CanRelease-from_untake s c.args.entity c.args.fresh can) in
    omega (arith, c.self.invariant.room, c.self.inside.free.ok)

pub invariant_of-self-else-fresh : goal.invariant_of-self-else-fresh
invariant_of-self-else-fresh c =
    let s : SlotState = slots_of c.self.inside.limit c.self.inside.generations.items c.self.inside.free.items in
    let can : CanUntake s c.args.entity c.args.fresh = subst (λ (v : StoredSlots). CanUntake v.state c.args.entity c.args.fresh) (sym c.self.view_is) ((untake _ _ _).0 c.requires) in
    record {
      sound = subst (λ f. IsSlots (record s { free = f })) (sym c.push_reserved.ensures.items)
          (IsSlots-untake s c.args.entity false c.self.invariant.sound (subst (CanUntake s c.args.entity) c.if-fresh.false can));
      room = omega (arith, c.self.invariant.room, c.push_reserved.ensures.capacity);
    }

pub returns-then-fresh-clause-state : goal.returns-then-fresh-clause-state
returns-then-fresh-clause-state c =
    let e = c.args.entity in
    let popped = c.pop-first.ensures.rest ∙ take-front c.self.inside.generations.items _ c.self.inside.generations.ok.0 in
    ap (λ g. slots_of c.self.inside.limit g c.self.inside.free.items) popped
    ∙ ap (λ (v : StoredSlots). untake_of v.state e true) c.self.view_is ∙ ap (untake_of c.args.self.now.state e) (sym c.if-fresh.true)
