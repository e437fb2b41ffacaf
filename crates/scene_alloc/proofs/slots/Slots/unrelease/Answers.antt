use Rattle.std.proofs.Common.{◌∙◌, false, ap, subst, sym, arith, length-set}
use Rattle.scene_alloc.specs.Slots.{SlotState, StoredSlots, IsSlots, slots_of, unrelease_of}
use Rattle.scene_alloc.proofs.Ends.{take-front}
use Rattle.scene_alloc.proofs.Moves.{IsSlots-unrelease}
use Rattle.scene_alloc.proofs.SlotParts.{CanUnrelease, unrelease}
use Rattle.scene_alloc.proofs.slots.Slots.unrelease.Goals as goal

pub invariant_of-self : goal.invariant_of-self
invariant_of-self c =
    let s : SlotState = slots_of c.self.inside.limit c.self.inside.generations.items c.self.inside.free.items in
    let e = c.args.entity in
    let can : CanUnrelease s e c.args.retired = subst (λ (v : StoredSlots). CanUnrelease v.state e c.args.retired) (sym c.self.view_is) ((unrelease _ _ _).0 c.requires) in
    let popped = c.pop-index.ensures.rest ∙ take-front c.self.inside.free.items _ c.self.inside.free.ok.0 in
    record {
      sound = subst (λ f. IsSlots (record (unrelease_of s e false) { free = f })) (sym popped)
          (IsSlots-unrelease s e false c.self.invariant.sound (subst (CanUnrelease s e) c.if-not-retired.true can));
      room = omega (arith, length-set s.generations e.index e.generation, c.self.invariant.room, c.pop-index.ensures.capacity);
    }

pub returns-then-not-retired-clause-state : goal.returns-then-not-retired-clause-state
returns-then-not-retired-clause-state c =
    let e = c.args.entity in
    let s : SlotState = slots_of c.self.inside.limit c.self.inside.generations.items c.self.inside.free.items in
    let popped = c.pop-index.ensures.rest ∙ take-front c.self.inside.free.items _ c.self.inside.free.ok.0 in
    ap (λ f. record (unrelease_of s e false) { free = f }) popped
    ∙ ap (λ (v : StoredSlots). unrelease_of v.state e false) c.self.view_is ∙ ap (unrelease_of c.args.self.now.state e) (sym c.if-not-retired.true)
