use Rattle.std.proofs.Common.{◌≡◌, ◌∙◌, length, ap, sym, arith}
use Rattle.std.specs.List.{swap}
use Rattle.scene_table.specs.Rows.{put_back}
use Rattle.scene_table.proofs.Swaps.{put_back_last, swap_is}
use Rattle.scene_table.proofs.column.put_value.Goals as goal

pub returns-then-at-last-clause-items : goal.returns-then-at-last-clause-items
returns-then-at-last-clause-items c =
    c.swap.ensures.items ∙ ap (λ ys. swap ys c.args.at c.len-last.result) c.push_reserved.ensures.items
    ∙ swap_is c.args.values.now.items c.args.at c.len-last.result c.args.value c.requires.within (omega (arith, c.len-last.ensures))

-- no other value stands at the place: it is behind the last
pub returns-else-at-last-clause-items : goal.returns-else-at-last-clause-items
returns-else-at-last-clause-items c =
    let xs = c.args.values.now.items in
    let last : length xs ≡ c.args.at = omega (arith, c.len-last.ensures, c.if-at-last.false) in
    c.push_reserved.ensures.items ∙ sym (put_back_last xs c.args.value) ∙ ap (λ i. put_back xs i c.args.value) last
