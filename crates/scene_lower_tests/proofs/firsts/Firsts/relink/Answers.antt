use Rattle.std.proofs.Common.{ap, sym, subst}
use Rattle.scene_kinds.specs.declared.entity.Entity.{Entity}
use Rattle.scene_links.specs.Forest.{AllLinked}
use Rattle.scene_links.proofs.LinkLaws.{all_joined_at}
use Rattle.scene_lower_tests.proofs.FirstLinks.{IsFirst}
use Rattle.scene_lower_tests.proofs.firsts.Firsts.relink.Goals as goal

pub invariant_of-self-2 : goal.invariant_of-self-2
invariant_of-self-2 c = subst (AllLinked IsFirst) (sym c.in_ok-relink.ensures.ok)
    (all_joined_at IsFirst c.self.inside.links.forest c.first-child.result c.first-parent.result c.args.place
    (ap (λ (e : Entity). e.generation) c.first-child.ensures) (ap (λ (e : Entity). e.generation) c.first-parent.ensures) c.self.invariant)
