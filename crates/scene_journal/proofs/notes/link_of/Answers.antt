use Rattle.std.proofs.Common.{ap, sym, ◌∙◌, arith}
use Rattle.scene_links.specs.Forest.{place_of}
use Rattle.scene_world.proofs.FewChildren.{place_low}
use Rattle.scene_journal.proofs.notes.link_of.Goals as goal

pub overflow_cast-result : goal.overflow_cast-result
overflow_cast-result c =
    let low = place_low c.args.world.now.world c.args.entity c.in_ok-place.place c.tick-tick.ensures.valid (ap (λ f. place_of f c.args.entity) (sym c.links-2.ensures) ∙ sym c.in_ok-place.ensures.value) in
    omega (arith, low)
