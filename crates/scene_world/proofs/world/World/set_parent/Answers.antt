use Rattle.std.proofs.Common.{◌≡◌, ◌∙◌, ap, sym, true, false}
use Rattle.scene_model.specs.World.{World, is_live}
use Rattle.scene_world.specs.Stored.{world_of}
use Rattle.scene_model.proofs.LinkKeeps.{link_answered, live_alone}
use Rattle.scene_world.proofs.Room.{seen_world}
use Rattle.scene_world.proofs.world.World.set_parent.Goals.{then-is_alive, else-is_alive}
use Rattle.scene_world.proofs.world.World.set_parent.Goals as goal

both_live : (c : goal.After-link) → (is_live c.args.self.now.world c.args.child ≡ true) × (is_live c.args.self.now.world c.args.parent ≡ true)
both_live c = elim c.if-is_alive.branch [
  | then-is_alive w ↦ (sym c.is_alive.ensures ∙ w.if-is_alive.true, sym w.is_alive-then-is_alive.ensures ∙ sym w.value-is ∙ c.if-not-is_alive.false)
  | else-is_alive w ↦ absurd (let k : false ≡ true = sym w.if-is_alive.false ∙ sym w.value-is ∙ c.if-not-is_alive.false in cc)
]

pub link-requires : goal.link-requires
link-requires c =
    let w = c.self.inside in
    let old : World = world_of w.schema w.slots w.tick w.tables.tables w.links.forest w.resources in
    let live = elim c.if-is_alive.branch as (λ _. (is_live c.args.self.now.world c.args.child ≡ true) × (is_live c.args.self.now.world c.args.parent ≡ true)) [
      | then-is_alive w ↦ (sym c.is_alive.ensures ∙ w.if-is_alive.true, sym w.is_alive-then-is_alive.ensures ∙ sym w.value-is ∙ c.if-not-is_alive.false)
      | else-is_alive w ↦ absurd (let k : false ≡ true = sym w.if-is_alive.false ∙ sym w.value-is ∙ c.if-not-is_alive.false in cc)
    ] in
    record { alone = live_alone old c.args.child c.args.parent c.self.invariant.valid (ap (λ (v : World). is_live v c.args.child) (seen_world c.self.view_is) ∙ live.0) (ap (λ (v : World). is_live v c.args.parent) (seen_world c.self.view_is) ∙ live.1) }

pub invariant_of-self : goal.invariant_of-self
invariant_of-self c =
    let w = c.self.inside in
    let old : World = world_of w.schema w.slots w.tick w.tables.tables w.links.forest w.resources in
    let live = both_live c in
    record {
      valid = link_answered old c.args.child c.args.parent c.link.new.self.forest c.link.result c.self.invariant.valid
          (ap (λ (v : World). is_live v c.args.child) (seen_world c.self.view_is) ∙ live.0) (ap (λ (v : World). is_live v c.args.parent) (seen_world c.self.view_is) ∙ live.1) c.link.ensures.answer;
      homes = c.self.invariant.homes;
    }
