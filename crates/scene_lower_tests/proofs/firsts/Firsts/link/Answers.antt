use Rattle.std.proofs.Common.{ap}
use Rattle.scene_kinds.specs.declared.entity.Entity.{Entity}
use Rattle.scene_lower_tests.proofs.FirstLinks.{first_linked}
use Rattle.scene_lower_tests.proofs.firsts.Firsts.link.Goals as goal

pub invariant_of-self : goal.invariant_of-self
invariant_of-self c = first_linked c.self.inside.links.forest c.self.invariant c.link.new.self.forest c.first.result c.first-2.result c.link.result
    (ap (λ (e : Entity). e.generation) c.first.ensures) (ap (λ (e : Entity). e.generation) c.first-2.ensures) c.link.ensures.answer
