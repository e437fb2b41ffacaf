use Rattle.scene_lower_tests.proofs.FirstLinks.{first_unlinked}
use Rattle.scene_lower_tests.proofs.firsts.Firsts.unlink.Goals as goal

pub invariant_of-self : goal.invariant_of-self
invariant_of-self c = first_unlinked c.self.inside.links.forest c.self.invariant c.unlink.new.self.forest c.first.result c.unlink.result c.unlink.ensures.answer
