use Rattle.std.proofs.Common.{◌∙◌, length, ap, arith}
use Rattle.scene_table.specs.Rows.{swap_out}
use Rattle.scene_table.specs.TickList.{TicksState}
use Rattle.scene_table.proofs.Swaps.{swap_remove_is}
use Rattle.scene_table.proofs.ticks.TickList.take.Goals as goal

pub returns-clause-left : goal.returns-clause-left
returns-clause-left c =
    let n = ap (λ t. length t.items) c.self.view_is in
    (λ i. record {
      items = (c.swap_remove.ensures.items ∙ swap_remove_is c.self.inside.ticks.items c.args.at c.swap_remove.result (omega (arith, n, c.requires))) i;
      capacity = c.swap_remove.ensures.capacity i;
    })
    ∙ ap (λ (t : TicksState). record t { items = swap_out t.items c.args.at }) c.self.view_is
