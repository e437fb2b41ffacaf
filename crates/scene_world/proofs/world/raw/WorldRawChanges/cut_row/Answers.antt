use Rattle.std.proofs.Common.{◌≡◌, ◌∙◌, ap, sym, subst, false, List, length, arith}
use Rattle.std.specs.Prelude.{is_some, ◌==◌}
use Rattle.scene_kinds.specs.Map as map
use Rattle.scene_kinds.specs.declared.entity.Entity.{Entity}
use Rattle.scene_alloc.specs.Slots.{SlotState}
use Rattle.scene_alloc.proofs.SlotParts.{CanRelease, release}
use Rattle.scene_links.specs.Forest.{children_of}
use Rattle.scene_model.specs.World.{World, IsHomeOf}
use Rattle.scene_model.specs.Commands.{after_despawn}
use Rattle.scene_model.specs.Valid.{IsValid}
use Rattle.scene_model.proofs.DespawnKeeps.{can_release, gone_valid, childless}
use Rattle.scene_model.proofs.Found.{stands_in}
use Rattle.scene_world.specs.Stored.{world_of}
use Rattle.scene_world.proofs.Room.{seen_world}
use Rattle.scene_world.proofs.SlotHomes.{no_more_released}
use Rattle.scene_world.proofs.world.raw.WorldRawChanges.cut_row.Goals as goal

pub drop_row-requires : goal.drop_row-requires
drop_row-requires c =
    let w = c.self.inside in
    let old : World = world_of w.schema w.slots w.tick w.tables.tables w.links.forest w.resources in
    let h = c.home_of_live-home.result in
    let home : IsHomeOf old c.args.entity h = subst (λ (v : World). IsHomeOf v c.args.entity h) (sym (seen_world c.self.view_is)) c.home_of_live-home.ensures.row in
    stands_in old c.args.entity h home

pub release-retired-requires : goal.release-retired-requires
release-retired-requires c =
    let w = c.self.inside in
    let old : World = world_of w.schema w.slots w.tick w.tables.tables w.links.forest w.resources in
    let h = c.home_of_live-home.result in
    let home : IsHomeOf old c.args.entity h = subst (λ (v : World). IsHomeOf v c.args.entity h) (sym (seen_world c.self.view_is)) c.home_of_live-home.ensures.row in
    (release w.slots.state c.args.entity).1 (subst (CanRelease w.slots.state) home.same (can_release old h home.row c.self.invariant.valid home.there))

pub invariant_of-self : goal.invariant_of-self
invariant_of-self c =
    let w = c.self.inside in
    let old : World = world_of w.schema w.slots w.tick w.tables.tables w.links.forest w.resources in
    let h = c.home_of_live-home.result in
    let home : IsHomeOf old c.args.entity h = subst (λ (v : World). IsHomeOf v c.args.entity h) (sym (seen_world c.self.view_is)) c.home_of_live-home.ensures.row in
    let none = ap (λ (v : World). children_of v.children c.args.entity) (seen_world c.self.view_is) ∙ c.requires.childless in
    let alone : is_some (map.get w.links.forest c.args.entity) ≡ false = childless w.links.forest c.args.entity (ap (λ (es : List Entity). length es == 0) none) in
    let left : IsValid (after_despawn old h c.args.entity) = subst (λ (e : Entity). IsValid (after_despawn old h e)) home.same
    (gone_valid old h home.row c.self.invariant.valid home.there (ap (λ (e : Entity). is_some (map.get w.links.forest e)) home.same ∙ alone)) in
    let after : after_despawn old h c.args.entity ≡ world_of w.schema c.release-retired.new.self w.tick c.drop_row.new.self.tables c.leave-link.new.self.forest w.resources =
    λ i. record { schema = w.schema; slots = sym c.release-retired.ensures.state i; tick = w.tick; tables = sym c.drop_row.ensures.tables i; children = sym c.leave-link.ensures.forest i; resources = w.resources.cells } in
    record {
      valid = subst IsValid after left;
      homes = omega (arith, no_more_released w.slots.state c.args.entity, ap (λ (s : SlotState). length s.generations) c.release-retired.ensures.state, c.drop_row.ensures.homes, c.self.invariant.homes);
    }
