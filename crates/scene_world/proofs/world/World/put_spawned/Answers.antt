use Rattle.std.proofs.Common.{◌≡◌, ◌∙◌, ap, sym, subst, true}
use Rattle.scene_model.specs.Can.{can_put}
use Rattle.scene_alloc.specs.Slots.{takes_new_slot}
use Rattle.scene_model.specs.World.{World}
use Rattle.scene_model.proofs.CanParts.{put, cells_are_good}
use Rattle.scene_world.proofs.Room.{seen_world}
use Rattle.scene_world.proofs.world.World.put_spawned.Goals as goal

pub put_row-requires : goal.put_row-requires
put_row-requires c =
    subst (λ cells. can_put c.args.self.now.world c.in-Some.entity cells c.takes_new_slot-fresh.result ≡ true) (sym c.in_ok-copied.ensures)
    ((put c.args.self.now.world _ c.args.cells _).1 (record {
      next = sym c.next_entity.ensures ∙ c.in-Some.is;
      slot = c.takes_new_slot-fresh.ensures ∙ ap (λ (v : World). takes_new_slot v.slots) (seen_world c.self.view_is);
      good = (cells_are_good c.args.self.now.world c.args.cells).0 c.requires;
    }))
