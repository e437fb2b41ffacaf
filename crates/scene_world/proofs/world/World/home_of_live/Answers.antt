use Rattle.std.proofs.Common.{◌≡◌, ◌∙◌, ap, sym, Some}
use Rattle.scene_model.specs.World.{World, home_of, is_live}
use Rattle.scene_model.proofs.Found.{some_home}
use Rattle.scene_world.proofs.Room.{seen_world}
use Rattle.scene_world.proofs.world.World.home_of_live.Goals as goal

pub known_home-requires : goal.known_home-requires
known_home-requires c = ap (λ (v : World). is_live v c.args.entity) (seen_world c.self.view_is) ∙ c.requires

pub returns-clause-row : goal.returns-clause-row
returns-clause-row c =
    let home : Some c.known_home.result ≡ home_of c.args.self.now.world c.args.entity = sym c.known_home.ensures.home ∙ ap (λ (v : World). home_of v c.args.entity) (seen_world c.self.view_is) in
    some_home c.args.self.now.world c.args.entity (Some c.known_home.result) home
