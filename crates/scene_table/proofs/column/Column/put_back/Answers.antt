use Rattle.std.proofs.Common.{◌≡◌, length, ap, sym, ◌∙◌, arith, min, vec_capacity}
use Rattle.std.specs.List.{swap}
use Rattle.scene_table.specs.Columns.{cells_of, back_in_column}
use Rattle.scene_table.specs.Rows.{put_back}
use Rattle.scene_table.proofs.Swaps.{length-put_back}
use Rattle.scene_table.proofs.ColumnCells.{length-cells_of, cells_of-put_back}
use Rattle.scene_table.proofs.column.Column.put_back.Goals as goal

pub push_reserved-requires : goal.push_reserved-requires
push_reserved-requires c =
    let n : length c.args.self.now.cells ≡ length c.self.inside.values.items = ap (λ t. length t.cells) (sym c.self.view_is) ∙ length-cells_of _ _ _ c.self.invariant in
    let r = ap (λ t. t.capacity) c.self.view_is in
    omega arith

pub swap-requires-clause-i_in_bounds : goal.swap-requires-clause-i_in_bounds
swap-requires-clause-i_in_bounds c =
    let n : length c.args.self.now.cells ≡ length c.self.inside.values.items = ap (λ t. length t.cells) (sym c.self.view_is) ∙ length-cells_of _ _ _ c.self.invariant in
    omega (arith, c.push_reserved.ensures.len)

pub put_back-requires : goal.put_back-requires
put_back-requires c =
    let n : length c.args.self.now.cells ≡ length c.self.inside.values.items = ap (λ t. length t.cells) (sym c.self.view_is) ∙ length-cells_of _ _ _ c.self.invariant in
    let r = ap (λ t. t.capacity) c.self.view_is in
    record { within = omega (arith, c.self.invariant.ticks_added); room = omega (arith, c.self.invariant.ticks_added) }

pub put_back-requires-2 : goal.put_back-requires-2
put_back-requires-2 c =
    let n : length c.args.self.now.cells ≡ length c.self.inside.values.items = ap (λ t. length t.cells) (sym c.self.view_is) ∙ length-cells_of _ _ _ c.self.invariant in
    let r = ap (λ t. t.capacity) c.self.view_is in
    record { within = omega (arith, c.self.invariant.ticks_changed); room = omega (arith, c.self.invariant.ticks_changed) }

pub invariant_of-self : goal.invariant_of-self
invariant_of-self c =
    let n : length c.args.self.now.cells ≡ length c.self.inside.values.items = ap (λ t. length t.cells) (sym c.self.view_is) ∙ length-cells_of _ _ _ c.self.invariant in
    let added = ap (λ t. length t.items) c.put_back.ensures ∙ length-put_back c.self.inside.added.items c.args.at c.args.cell.added in
    let changed = ap (λ t. length t.items) c.put_back-2.ensures ∙ length-put_back c.self.inside.changed.items c.args.at c.args.cell.changed in
    record {
      ticks_added = omega (arith, added, c.swap.ensures.len, c.push_reserved.ensures.len, c.self.invariant.ticks_added);
      ticks_changed = omega (arith, changed, c.swap.ensures.len, c.push_reserved.ensures.len, c.self.invariant.ticks_changed);
    }

pub returns : goal.returns
returns c =
    let n : length c.args.self.now.cells ≡ length c.self.inside.values.items = ap (λ t. length t.cells) (sym c.self.view_is) ∙ length-cells_of _ _ _ c.self.invariant in
    (λ i. record {
      kind = c.self.inside.kind;
      cells = cells_of (c.swap.ensures.items i) (c.put_back.ensures i).items (c.put_back-2.ensures i).items;
      capacity = min (c.swap.ensures.capacity i) (min (c.put_back.ensures i).capacity (c.put_back-2.ensures i).capacity);
    })
    ∙ (λ i. record {
      kind = c.self.inside.kind;
      cells = cells_of (swap (c.push_reserved.ensures.items i) c.args.at c.len-last.result) (put_back c.self.inside.added.items c.args.at c.args.cell.added) (put_back c.self.inside.changed.items c.args.at c.args.cell.changed);
      capacity = min (c.push_reserved.ensures.capacity i) (min c.self.inside.added.capacity c.self.inside.changed.capacity);
    })
    ∙ (λ i. record {
      kind = c.self.inside.kind;
      cells = cells_of-put_back _ _ _ c.self.invariant c.args.at c.len-last.result c.args.cell.value c.args.cell.added c.args.cell.changed (omega arith) (omega (arith, c.len-last.ensures)) i;
      capacity = min (vec_capacity c.self.inside.values) (min c.self.inside.added.capacity c.self.inside.changed.capacity);
    })
    ∙ ap (λ t. back_in_column c.args.at t c.args.cell) c.self.view_is
