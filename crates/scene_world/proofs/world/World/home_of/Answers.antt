use Rattle.std.proofs.Common.{◌∙◌, ap, subst}
use Rattle.scene_model.specs.World.{World, home_of}
use Rattle.scene_model.specs.Valid.{IsValid}
use Rattle.scene_model.proofs.Found.{some_home}
use Rattle.scene_world.proofs.Room.{seen_world}
use Rattle.scene_world.proofs.world.World.home_of.Goals as goal

pub returns : goal.returns
returns c =
    let home = c.find.ensures.home ∙ ap (λ (v : World). home_of v c.args.entity) (seen_world c.self.view_is) in
    record { home = home; row = some_home c.args.self.now.world c.args.entity c.find.result home; valid = subst IsValid (seen_world c.self.view_is) c.self.invariant.valid }
