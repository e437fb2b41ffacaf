use Rattle.std.proofs.Common.{◌∙◌, ap, sym, nat_lt}
use Rattle.std.specs.Prelude.{slice_range}
use Rattle.std.specs.List.{list_any}
use Rattle.std.proofs.lemmas.Bool.{ltb-false}
use Rattle.scene_table.proofs.TickBounds.{none_after}
use Rattle.scene_table.proofs.ticks.TickList.may_pass.Goals as goal

pub returns : goal.returns
returns c low from to =
    ap (λ t. list_any (nat_lt c.args.tick) (slice_range t.items from to)) (sym c.self.view_is)
    ∙ none_after c.self.inside.latest c.args.tick c.self.inside.ticks.items c.self.invariant (ltb-false c.args.tick c.self.inside.latest low) from to
