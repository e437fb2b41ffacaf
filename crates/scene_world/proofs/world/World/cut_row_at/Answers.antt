use Rattle.std.proofs.Common.{◌≡◌, ◌<◌, ◌∙◌, ap, sym, subst, false, List, length, arith}
use Rattle.std.specs.Prelude.{is_some, ◌==◌}
use Rattle.scene_kinds.specs.Map as map
use Rattle.scene_kinds.specs.declared.entity.Entity.{Entity}
use Rattle.scene_alloc.specs.Slots.{SlotState}
use Rattle.scene_links.specs.Forest.{children_of}
use Rattle.scene_model.specs.World.{World, IsHomeOf}
use Rattle.scene_model.specs.Commands.{after_despawn}
use Rattle.scene_model.specs.Valid.{IsValid}
use Rattle.scene_model.proofs.Bounds.{place_low}
use Rattle.scene_model.proofs.DespawnKeeps.{gone_valid, childless}
use Rattle.scene_world.specs.Stored.{world_of}
use Rattle.scene_world.proofs.FewChildren.{link_low}
use Rattle.scene_world.proofs.Room.{seen_world}
use Rattle.scene_world.proofs.SlotHomes.{no_more_released}
use Rattle.scene_world.proofs.world.World.cut_row_at.Goals as goal

pub overflow_cast-result : goal.overflow_cast-result
overflow_cast-result c =
    let w = c.self.inside in
    let old : World = world_of w.schema w.slots w.tick w.tables.tables w.links.forest w.resources in
    let home : IsHomeOf old c.args.entity c.args.home = subst (λ (v : World). IsHomeOf v c.args.entity c.args.home) (sym (seen_world c.self.view_is)) c.requires.home in
    let low : c.args.home.place < 1048576 = place_low old c.self.invariant.valid c.args.home home.row home.there in
    omega (arith, low)

pub noted_link-requires : goal.noted_link-requires
noted_link-requires c =
    let w = c.self.inside in
    let old : World = world_of w.schema w.slots w.tick w.tables.tables w.links.forest w.resources in
    link_low old c.args.entity c.leave-link.result c.self.invariant.valid c.leave-link.ensures.link

pub invariant_of-self-2 : goal.invariant_of-self-2
invariant_of-self-2 c =
    let w = c.self.inside in
    let old : World = world_of w.schema w.slots w.tick w.tables.tables w.links.forest w.resources in
    let h = c.args.home in
    let home : IsHomeOf old c.args.entity h = subst (λ (v : World). IsHomeOf v c.args.entity h) (sym (seen_world c.self.view_is)) c.requires.home in
    let none = ap (λ (v : World). children_of v.children c.args.entity) (seen_world c.self.view_is) ∙ c.requires.childless in
    let alone : is_some (map.get w.links.forest c.args.entity) ≡ false = childless w.links.forest c.args.entity (ap (λ (es : List Entity). length es == 0) none) in
    let left : IsValid (after_despawn old h c.args.entity) = subst (λ (e : Entity). IsValid (after_despawn old h e)) home.same
    (gone_valid old h home.row c.self.invariant.valid home.there (ap (λ (e : Entity). is_some (map.get w.links.forest e)) home.same ∙ alone)) in
    let after : after_despawn old h c.args.entity ≡ world_of w.schema c.release-retired.new.self w.tick c.take_row.new.self.tables c.leave-link.new.self.forest w.resources =
    λ i. record { schema = w.schema; slots = sym c.release-retired.ensures.state i; tick = w.tick; tables = sym c.in_ok-row.ensures.ok i; children = sym c.leave-link.ensures.forest i; resources = w.resources.cells } in
    record {
      valid = subst IsValid after left;
      homes = omega (arith, no_more_released w.slots.state c.args.entity, ap (λ (s : SlotState). length s.generations) c.release-retired.ensures.state, c.in_ok-row.ensures.homes, c.self.invariant.homes);
    }
