use Rattle.std.proofs.Common.{◌≡◌, ◌∙◌, true, ap, cond, sym, subst, Option}
use Rattle.std.specs.Option.{IsSome}
use Rattle.scene_kinds.specs.declared.cell.Cell.{Cell}
use Rattle.scene_kinds.proofs.Maps.{ties_itself}
use Rattle.scene_resources.specs.Resources.{NamedCells, cell_of, name_cmp_total}
use Rattle.scene_resources.proofs.ResourceLaws.{restored_cells}
use Rattle.scene_model.specs.World.{World}
use Rattle.scene_model.specs.Commands.{with_resources}
use Rattle.scene_model.specs.Raw.{set_resource}
use Rattle.scene_model.specs.Can.{can_set_resource}
use Rattle.scene_model.specs.Valid.{IsValid}
use Rattle.scene_model.proofs.ResourceBack.{resources_come_back}
use Rattle.scene_world.specs.Stored.{world_of}
use Rattle.scene_world.proofs.Room.{seen_world, held_inside}
use Rattle.scene_world.proofs.world.raw.WorldRawChanges.set_resource_reserved.Goals as goal

pub restore_reserved-requires : goal.restore_reserved-requires
restore_reserved-requires c = λ some.
    let held = held_inside c.self.view_is (λ v. set_resource v c.args.name.now c.args.cell) c.requires.room in
    let r = c.self.inside.resources.cells in
    let is = restored_cells r c.args.name.now c.args.cell c.args.name.now ∙ ap (λ b. cond b c.args.cell (cell_of r c.args.name.now)) (ties_itself name_cmp_total c.args.name.now) in
    held.names.each c.args.name.now (subst (λ (o : Option Cell). IsSome o) (sym is) some)

pub invariant_of-self : goal.invariant_of-self
invariant_of-self c =
    let w = c.self.inside in
    let old : World = world_of w.schema w.slots w.tick w.tables.tables w.links.forest w.resources in
    let can = subst (λ (v : World). can_set_resource v c.args.name.now (cell_of v.resources c.args.name.now) c.args.cell ≡ true) (sym (seen_world c.self.view_is)) c.requires.can in
    record {
      valid = subst (λ (r : NamedCells). IsValid (with_resources old r)) (sym c.restore_reserved.ensures.done)
          ((resources_come_back c.args.name.now (cell_of w.resources.cells c.args.name.now) c.args.cell).keeps old c.self.invariant.valid can);
      homes = c.self.invariant.homes;
    }
