use Rattle.std.proofs.Common.{option_map, sym, ap, ◌∙◌}
use Rattle.scene_json.specs.Keys.{sooner}
use Rattle.scene_json.proofs.Unknown.{first_kept, later_kept}
use Rattle.scene_json.proofs.part.sooner.Goals as goal

pub returns-then-le : goal.returns-then-le
returns-then-le c =
    first_kept c.in-Some.before.now c.args.key.now (sym c.if-le.ensures)
    ∙ ap (λ o. sooner (option_map (λ k. k.now) o) c.args.key.now) (sym c.in-Some.is)

pub returns-else-le : goal.returns-else-le
returns-else-le c =
    later_kept c.in-Some.before.now c.args.key.now (sym c.if-le.ensures)
    ∙ ap (λ o. sooner (option_map (λ k. k.now) o) c.args.key.now) (sym c.in-Some.is)
