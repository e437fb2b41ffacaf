use Rattle.std.proofs.Common.{◌∙◌, ℕ, List, length, ap, subst, sym, arith}
use Rattle.std.specs.List.{swap}
use Rattle.scene_table.specs.Rows.{put_back}
use Rattle.scene_table.specs.TickList.{TicksState}
use Rattle.scene_table.proofs.Swaps.{swap_is}
use Rattle.scene_table.proofs.TickBounds.{AllUpTo, up_to_put_back}
use Rattle.scene_table.proofs.ticks.TickList.put_back.Goals as goal

pub invariant_of-self : goal.invariant_of-self
invariant_of-self c =
    let n = ap (λ t. length t.items) c.self.view_is in
    let items = c.swap.ensures.items ∙ ap (λ t. swap t c.args.at c.len-last.result) c.push_reserved.ensures.items in
    subst (λ (p : ℕ × List ℕ). AllUpTo p.0 p.1) (λ i. (sym c.max-self-inside.ensures i, sym items i))
    (up_to_put_back c.self.inside.latest c.args.tick c.args.at c.len-last.result c.self.inside.ticks.items (omega (arith, n, c.requires.within)) (omega (arith, c.len-last.ensures)) c.self.invariant)

pub returns : goal.returns
returns c =
    let n = ap (λ t. length t.items) c.self.view_is in
    let items = c.swap.ensures.items ∙ ap (λ t. swap t c.args.at c.len-last.result) c.push_reserved.ensures.items
    ∙ swap_is c.self.inside.ticks.items c.args.at c.len-last.result c.args.tick (omega (arith, n, c.requires.within)) (omega (arith, c.len-last.ensures)) in
    (λ i. record { items = items i; capacity = (c.swap.ensures.capacity ∙ c.push_reserved.ensures.capacity) i })
    ∙ ap (λ (t : TicksState). record t { items = put_back t.items c.args.at c.args.tick }) c.self.view_is
