use Rattle.std.proofs.Common.{◌≡◌, length, ap, sym, ◌∙◌, arith, min, vec_capacity, slice_get}
use Rattle.scene_table.specs.Columns.{cells_of, out_of_column}
use Rattle.scene_table.proofs.Swaps.{length-swap_out}
use Rattle.scene_table.proofs.ColumnCells.{length-cells_of, cells_of-swapped_out, cells_of-get}
use Rattle.scene_table.proofs.column.Column.take.Goals as goal

pub swap_remove-requires : goal.swap_remove-requires
swap_remove-requires c =
    let n : length c.args.self.now.cells ≡ length c.self.inside.values.items = ap (λ t. length t.cells) (sym c.self.view_is) ∙ length-cells_of _ _ _ c.self.invariant in
    omega arith

pub take-requires : goal.take-requires
take-requires c =
    let n : length c.args.self.now.cells ≡ length c.self.inside.values.items = ap (λ t. length t.cells) (sym c.self.view_is) ∙ length-cells_of _ _ _ c.self.invariant in
    omega (arith, c.self.invariant.ticks_added)

pub take-requires-2 : goal.take-requires-2
take-requires-2 c =
    let n : length c.args.self.now.cells ≡ length c.self.inside.values.items = ap (λ t. length t.cells) (sym c.self.view_is) ∙ length-cells_of _ _ _ c.self.invariant in
    omega (arith, c.self.invariant.ticks_changed)

pub invariant_of-self : goal.invariant_of-self
invariant_of-self c =
    let n : length c.args.self.now.cells ≡ length c.self.inside.values.items = ap (λ t. length t.cells) (sym c.self.view_is) ∙ length-cells_of _ _ _ c.self.invariant in
    let added = ap (λ t. length t.items) c.take.ensures.left in
    let changed = ap (λ t. length t.items) c.take-2.ensures.left in
    let less_added = length-swap_out c.self.inside.added.items c.args.at (omega (arith, c.self.invariant.ticks_added)) in
    let less_changed = length-swap_out c.self.inside.changed.items c.args.at (omega (arith, c.self.invariant.ticks_changed)) in
    record {
      ticks_added = omega (arith, added, less_added, c.swap_remove.ensures.len, c.self.invariant.ticks_added);
      ticks_changed = omega (arith, changed, less_changed, c.swap_remove.ensures.len, c.self.invariant.ticks_changed);
    }

pub returns-clause-cell : goal.returns-clause-cell
returns-clause-cell c =
    let n : length c.args.self.now.cells ≡ length c.self.inside.values.items = ap (λ t. length t.cells) (sym c.self.view_is) ∙ length-cells_of _ _ _ c.self.invariant in
    ap (λ t. slice_get t.cells c.args.at) (sym c.self.view_is)
    ∙ cells_of-get _ _ _ c.self.invariant c.args.at _ _ _ (omega arith) c.swap_remove.ensures.value c.take.ensures.tick c.take-2.ensures.tick

pub returns-clause-left : goal.returns-clause-left
returns-clause-left c =
    let n : length c.args.self.now.cells ≡ length c.self.inside.values.items = ap (λ t. length t.cells) (sym c.self.view_is) ∙ length-cells_of _ _ _ c.self.invariant in
    (λ i. record {
      kind = c.self.inside.kind;
      cells = cells_of (c.swap_remove.ensures.items i) (c.take.ensures.left i).items (c.take-2.ensures.left i).items;
      capacity = min (c.swap_remove.ensures.capacity i) (min (c.take.ensures.left i).capacity (c.take-2.ensures.left i).capacity);
    })
    ∙ (λ i. record {
      kind = c.self.inside.kind;
      cells = cells_of-swapped_out _ _ _ c.self.invariant c.args.at c.swap_remove.result (omega arith) i;
      capacity = min (vec_capacity c.self.inside.values) (min c.self.inside.added.capacity c.self.inside.changed.capacity);
    })
    ∙ ap (out_of_column c.args.at) c.self.view_is
