use Rattle.std.proofs.Common.{◌≡◌, length, ap, sym, ◌∙◌, arith, min, vec_capacity, slice_get, slice_set, Some}
use Rattle.scene_table.specs.Columns.{ColumnState, cells_of}
use Rattle.scene_table.proofs.ColumnCells.{length-cells_of, cells_of-set, cells_of-get}
use Rattle.scene_table.proofs.column.Column.set.Goals as goal

pub index_mut-requires : goal.index_mut-requires
index_mut-requires c =
    let n : length c.args.self.now.cells ≡ length c.self.inside.values.items = ap (λ t. length t.cells) (sym c.self.view_is) ∙ length-cells_of _ _ _ c.self.invariant in
    omega arith

pub set-requires : goal.set-requires
set-requires c =
    let n : length c.args.self.now.cells ≡ length c.self.inside.values.items = ap (λ t. length t.cells) (sym c.self.view_is) ∙ length-cells_of _ _ _ c.self.invariant in
    omega (arith, c.self.invariant.ticks_added)

pub set-requires-2 : goal.set-requires-2
set-requires-2 c =
    let n : length c.args.self.now.cells ≡ length c.self.inside.values.items = ap (λ t. length t.cells) (sym c.self.view_is) ∙ length-cells_of _ _ _ c.self.invariant in
    omega (arith, c.self.invariant.ticks_changed)

pub returns-clause-old : goal.returns-clause-old
returns-clause-old c =
    let n : length c.args.self.now.cells ≡ length c.self.inside.values.items = ap (λ t. length t.cells) (sym c.self.view_is) ∙ length-cells_of _ _ _ c.self.invariant in
    ap (λ t. slice_get t.cells c.args.at) (sym c.self.view_is)
    ∙ cells_of-get _ _ _ c.self.invariant c.args.at _ _ _ (omega arith) c.index_mut.ensures.value c.set.ensures.old c.set-2.ensures.old
    ∙ (λ i. Some (record { value = sym c.replace.ensures.value i; added = c.set.result; changed = c.set-2.result }))

pub returns-clause-new : goal.returns-clause-new
returns-clause-new c =
    (λ i. record {
      kind = c.self.inside.kind;
      cells = cells_of (slice_set c.self.inside.values.items c.args.at (c.replace.ensures.after i)) (c.set.ensures.new i).items (c.set-2.ensures.new i).items;
      capacity = min (vec_capacity c.self.inside.values) (min (c.set.ensures.new i).capacity (c.set-2.ensures.new i).capacity);
    })
    ∙ (λ i. record {
      kind = c.self.inside.kind;
      cells = cells_of-set _ _ _ c.self.invariant c.args.at c.args.cell.value c.args.cell.added c.args.cell.changed i;
      capacity = min (vec_capacity c.self.inside.values) (min c.self.inside.added.capacity c.self.inside.changed.capacity);
    })
    ∙ ap (λ (t : ColumnState). record t { cells = slice_set t.cells c.args.at c.args.cell }) c.self.view_is
