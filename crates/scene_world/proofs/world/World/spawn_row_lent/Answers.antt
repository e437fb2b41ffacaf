use Rattle.std.proofs.Common.{◌≡◌, sym, subst, true, None}
use Rattle.scene_model.specs.Can.{are_good_cells}
use Rattle.scene_model.specs.World.{World}
use Rattle.scene_model.specs.Commands.{spawn_fault}
use Rattle.scene_world.specs.Stored.{world_of}
use Rattle.scene_world.proofs.NewRow.{new_are_good}
use Rattle.scene_world.proofs.Room.{seen_world}
use Rattle.scene_world.proofs.world.World.spawn_row_lent.Goals as goal

pub put_spawned-requires : goal.put_spawned-requires
put_spawned-requires c =
    let w = c.self.inside in
    let old : World = world_of w.schema w.slots w.tick w.tables.tables w.links.forest w.resources in
    let given = c.args.cells.now in
    let passed : spawn_fault w.schema given ≡ None = sym c.in_default.ensures in
    subst (λ (v : World). are_good_cells v c.in_ok-cells.cells ≡ true) (seen_world c.self.view_is)
    (subst (λ cells. are_good_cells old cells ≡ true) (sym c.in_ok-cells.ensures) (new_are_good old given passed))
