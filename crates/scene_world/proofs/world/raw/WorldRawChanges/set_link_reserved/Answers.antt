use Rattle.std.proofs.Common.{◌≡◌, ℕ, ◌∙◌, ap, sym, subst}
use Rattle.scene_kinds.specs.declared.entity.Entity.{Entity}
use Rattle.scene_links.specs.Forest.{Forest, cut, joined_at, link_in, with_link}
use Rattle.scene_links.specs.Room.{CanRelink, HasRoom, Holds as HoldsLinks}
use Rattle.scene_links.proofs.LinkLaws.{parent_gone, room_of_joined}
use Rattle.scene_model.specs.World.{World}
use Rattle.scene_model.specs.Raw.{set_link}
use Rattle.scene_model.proofs.CanParts.{CanHaveLink, set_link as link_decides}
use Rattle.scene_model.specs.Valid.{IsValid}
use Rattle.scene_model.proofs.LinkBack.{links_come_back}
use Rattle.scene_model.proofs.Options.{in_some}
use Rattle.scene_model.proofs.Relinks.{live_relinks}
use Rattle.scene_world.specs.Stored.{world_of}
use Rattle.scene_world.proofs.Room.{inside_tested, held_inside}
use Rattle.scene_world.proofs.world.raw.WorldRawChanges.set_link_reserved.Goals as goal

pub relink_reserved-requires-clause-can : goal.relink_reserved-requires-clause-can
relink_reserved-requires-clause-can c =
    let w = c.self.inside in
    let old : World = world_of w.schema w.slots w.tick w.tables.tables w.links.forest w.resources in
    let can = inside_tested c.self.view_is (λ v. link_decides v c.args.entity (link_in v.children c.args.entity) c.args.link) c.requires.can in
    let l : Entity × ℕ = (c.in-Some.parent, c.in-Some.place) in
    subst (λ (f : Forest). CanRelink f c.args.entity c.in-Some.parent c.in-Some.place) (sym c.leave-before.ensures.forest)
    (live_relinks old c.args.entity l c.self.invariant.valid can.live (in_some (CanHaveLink old c.args.entity) c.args.link l can.good c.in-Some.is))

pub relink_reserved-requires-clause-room : goal.relink_reserved-requires-clause-room
relink_reserved-requires-clause-room c =
    let w = c.self.inside in
    let old : World = world_of w.schema w.slots w.tick w.tables.tables w.links.forest w.resources in
    let held = held_inside c.self.view_is (λ v. set_link v c.args.entity c.args.link) c.requires.room in
    let joined = subst (λ l. HoldsLinks w.links.room (with_link w.links.forest c.args.entity l)) c.in-Some.is held.links in
    let room = room_of_joined w.links.room (cut w.links.forest c.args.entity) c.args.entity c.in-Some.parent c.in-Some.place (parent_gone w.links.forest c.args.entity c.self.invariant.valid.links.forest) joined in
    subst (λ f. HasRoom c.leave-before.new.self.room f c.args.entity c.in-Some.parent) (sym c.leave-before.ensures.forest)
    (subst (λ r. HasRoom r (cut w.links.forest c.args.entity) c.args.entity c.in-Some.parent) (sym c.leave-before.ensures.room) room)

pub invariant_of-self : goal.invariant_of-self
invariant_of-self c =
    let w = c.self.inside in
    let old : World = world_of w.schema w.slots w.tick w.tables.tables w.links.forest w.resources in
    let can = inside_tested c.self.view_is (λ v. link_decides v c.args.entity (link_in v.children c.args.entity) c.args.link) c.requires.can in
    let valid = (links_come_back c.args.entity (link_in w.links.forest c.args.entity) c.args.link).keeps old c.self.invariant.valid ((link_decides old c.args.entity (link_in w.links.forest c.args.entity) c.args.link).1 can) in
    let is : with_link w.links.forest c.args.entity c.args.link ≡ c.relink_reserved.new.self.forest = ap (with_link w.links.forest c.args.entity) c.in-Some.is
    ∙ sym (c.relink_reserved.ensures.forest ∙ ap (λ (f : Forest). joined_at f c.args.entity c.in-Some.parent c.in-Some.place) c.leave-before.ensures.forest) in
    record {
      valid = subst (λ (f : Forest). IsValid (record old { children = f })) is valid;
      homes = c.self.invariant.homes;
    }

pub invariant_of-self-in-None : goal.invariant_of-self-in-None
invariant_of-self-in-None c =
    let w = c.self.inside in
    let old : World = world_of w.schema w.slots w.tick w.tables.tables w.links.forest w.resources in
    let can = inside_tested c.self.view_is (λ v. link_decides v c.args.entity (link_in v.children c.args.entity) c.args.link) c.requires.can in
    let valid = (links_come_back c.args.entity (link_in w.links.forest c.args.entity) c.args.link).keeps old c.self.invariant.valid ((link_decides old c.args.entity (link_in w.links.forest c.args.entity) c.args.link).1 can) in
    let is : with_link w.links.forest c.args.entity c.args.link ≡ c.leave-before.new.self.forest = ap (with_link w.links.forest c.args.entity) c.in-None.is ∙ sym c.leave-before.ensures.forest in
    record {
      valid = subst (λ (f : Forest). IsValid (record old { children = f })) is valid;
      homes = c.self.invariant.homes;
    }
