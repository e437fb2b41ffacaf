use Rattle.std.proofs.Common.{◌≡◌, ◌∙◌, length, ap, sym, arith, min, vec_capacity, slice_get, Some}
use Rattle.scene_kinds.specs.declared.cell.Cell.{Cell}
use Rattle.scene_table.specs.Columns.{cells_of, back_in_column, out_of_column}
use Rattle.scene_table.proofs.Swaps.{length-put_back, length-swap_out}
use Rattle.scene_table.proofs.ColumnCells.{length-cells_of, cells_of-get, cells_of-with_back, cells_of-swapped_out}
use Rattle.scene_table.proofs.column.Column.move_to.Goals as goal

pub swap_remove-requires : goal.swap_remove-requires
swap_remove-requires c =
    let n : length c.args.self.now.cells ≡ length c.self.inside.values.items = ap (λ t. length t.cells) (sym c.self.view_is) ∙ length-cells_of _ _ _ c.self.invariant in
    omega arith

pub put_value-requires : goal.put_value-requires
put_value-requires c =
    let n : length c.args.target.now.cells ≡ length c.target.inside.values.items = ap (λ t. length t.cells) (sym c.target.view_is) ∙ length-cells_of _ _ _ c.target.invariant in
    let r = ap (λ t. t.capacity) c.target.view_is in
    record { within = omega arith; room = omega arith }

pub take-requires : goal.take-requires
take-requires c =
    let n : length c.args.self.now.cells ≡ length c.self.inside.values.items = ap (λ t. length t.cells) (sym c.self.view_is) ∙ length-cells_of _ _ _ c.self.invariant in
    omega (arith, c.self.invariant.ticks_added)

pub put_back-requires : goal.put_back-requires
put_back-requires c =
    let n : length c.args.target.now.cells ≡ length c.target.inside.values.items = ap (λ t. length t.cells) (sym c.target.view_is) ∙ length-cells_of _ _ _ c.target.invariant in
    let r = ap (λ t. t.capacity) c.target.view_is in
    record { within = omega (arith, c.target.invariant.ticks_added); room = omega (arith, c.target.invariant.ticks_added) }

pub take-requires-2 : goal.take-requires-2
take-requires-2 c =
    let n : length c.args.self.now.cells ≡ length c.self.inside.values.items = ap (λ t. length t.cells) (sym c.self.view_is) ∙ length-cells_of _ _ _ c.self.invariant in
    omega (arith, c.self.invariant.ticks_changed)

pub put_back-requires-2 : goal.put_back-requires-2
put_back-requires-2 c =
    let n : length c.args.target.now.cells ≡ length c.target.inside.values.items = ap (λ t. length t.cells) (sym c.target.view_is) ∙ length-cells_of _ _ _ c.target.invariant in
    let r = ap (λ t. t.capacity) c.target.view_is in
    record { within = omega (arith, c.target.invariant.ticks_changed); room = omega (arith, c.target.invariant.ticks_changed) }

pub invariant_of-self : goal.invariant_of-self
invariant_of-self c =
    let n : length c.args.self.now.cells ≡ length c.self.inside.values.items = ap (λ t. length t.cells) (sym c.self.view_is) ∙ length-cells_of _ _ _ c.self.invariant in
    let added = ap (λ t. length t.items) c.take.ensures.left in
    let changed = ap (λ t. length t.items) c.take-2.ensures.left in
    let less_added = length-swap_out c.self.inside.added.items c.args.at (omega (arith, c.self.invariant.ticks_added)) in
    let less_changed = length-swap_out c.self.inside.changed.items c.args.at (omega (arith, c.self.invariant.ticks_changed)) in
    record {
      ticks_added = omega (arith, added, less_added, c.swap_remove.ensures.len, c.self.invariant.ticks_added);
      ticks_changed = omega (arith, changed, less_changed, c.swap_remove.ensures.len, c.self.invariant.ticks_changed);
    }

pub invariant_of-target : goal.invariant_of-target
invariant_of-target c =
    let values = ap length c.put_value.ensures.items ∙ length-put_back c.target.inside.values.items c.args.to c.swap_remove.result in
    let added = ap (λ t. length t.items) c.put_back.ensures ∙ length-put_back c.target.inside.added.items c.args.to c.take.result in
    let changed = ap (λ t. length t.items) c.put_back-2.ensures ∙ length-put_back c.target.inside.changed.items c.args.to c.take-2.result in
    record {
      ticks_added = omega (arith, values, added, c.target.invariant.ticks_added);
      ticks_changed = omega (arith, values, changed, c.target.invariant.ticks_changed);
    }

pub returns-clause-left : goal.returns-clause-left
returns-clause-left c =
    let n : length c.args.self.now.cells ≡ length c.self.inside.values.items = ap (λ t. length t.cells) (sym c.self.view_is) ∙ length-cells_of _ _ _ c.self.invariant in
    (λ i. record {
      kind = c.self.inside.kind;
      cells = cells_of (c.swap_remove.ensures.items i) (c.take.ensures.left i).items (c.take-2.ensures.left i).items;
      capacity = min (c.swap_remove.ensures.capacity i) (min (c.take.ensures.left i).capacity (c.take-2.ensures.left i).capacity);
    })
    ∙ (λ i. record {
      kind = c.self.inside.kind;
      cells = cells_of-swapped_out _ _ _ c.self.invariant c.args.at c.swap_remove.result (omega arith) i;
      capacity = min (vec_capacity c.self.inside.values) (min c.self.inside.added.capacity c.self.inside.changed.capacity);
    })
    ∙ ap (out_of_column c.args.at) c.self.view_is

-- the value and the ticks that left are those of the cell
pub returns-clause-put : goal.returns-clause-put
returns-clause-put c = λ cell there.
    let n : length c.args.self.now.cells ≡ length c.self.inside.values.items = ap (λ t. length t.cells) (sym c.self.view_is) ∙ length-cells_of _ _ _ c.self.invariant in
    let moved : Cell = record { value = c.swap_remove.result; added = c.take.result; changed = c.take-2.result } in
    let same : moved ≡ cell = same_some (sym (cells_of-get _ _ _ c.self.invariant c.args.at _ _ _ (omega arith) c.swap_remove.ensures.value c.take.ensures.tick c.take-2.ensures.tick)
    ∙ ap (λ t. slice_get t.cells c.args.at) c.self.view_is ∙ there) in
    (λ i. record {
      kind = c.target.inside.kind;
      cells = cells_of (c.put_value.ensures.items i) (c.put_back.ensures i).items (c.put_back-2.ensures i).items;
      capacity = min (c.put_value.ensures.capacity i) (min (c.put_back.ensures i).capacity (c.put_back-2.ensures i).capacity);
    })
    ∙ (λ i. record {
      kind = c.target.inside.kind;
      cells = cells_of-with_back _ _ _ c.target.invariant c.args.to c.swap_remove.result c.take.result c.take-2.result i;
      capacity = min (vec_capacity c.target.inside.values) (min c.target.inside.added.capacity c.target.inside.changed.capacity);
    })
    ∙ ap (λ t. back_in_column c.args.to t moved) c.target.view_is
    ∙ ap (back_in_column c.args.to c.args.target.now) same
  where
    same_some : {x y : Cell} → Some x ≡ Some y → x ≡ y
    same_some e = cc
