use Rattle.std.proofs.Common.{◌∙◌, ap, sym, subst}
use Rattle.scene_kinds.specs.declared.entity.Entity.{Entity}
use Rattle.scene_links.specs.Forest.{AllLinked, cut, joined}
use Rattle.scene_links.proofs.LinkLaws.{all_joined, linked-cut}
use Rattle.scene_lower_tests.proofs.FirstLinks.{IsFirst}
use Rattle.scene_lower_tests.proofs.firsts.Firsts.link_in_steps.Goals as goal

pub invariant_of-self-2 : goal.invariant_of-self-2
invariant_of-self-2 c =
    let f = c.self.inside.links.forest in
    subst (AllLinked IsFirst) (sym (c.link_reserved.ensures.forest ∙ ap (λ f. joined (cut f c.first-child.result) c.first-child.result c.first-parent.result) c.reserve.ensures.forest))
    (all_joined IsFirst (cut f c.first-child.result) c.first-child.result c.first-parent.result
    (ap (λ (e : Entity). e.generation) c.first-child.ensures) (ap (λ (e : Entity). e.generation) c.first-parent.ensures) (linked-cut IsFirst f c.first-child.result c.self.invariant))
