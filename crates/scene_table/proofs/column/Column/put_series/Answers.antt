use Rattle.std.proofs.Common.{◌≡◌, ◌∙◌, length, map, ap, sym, arith, w64}
use Rattle.std.proofs.lemmas.Int.{to_z-of_z}
use Rattle.scene_kinds.specs.declared.cell.Cell.{Cell}
use Rattle.scene_table.specs.Columns.{cells_of}
use Rattle.scene_table.specs.Runs.{changed_of, grown}
use Rattle.scene_table.specs.TickList.{TicksState}
use Rattle.scene_table.proofs.ColumnCells.{length-cells_of, added_of}
use Rattle.scene_table.proofs.Walks.{back_whole}
use Rattle.scene_table.proofs.column.Column.put_series.Goals as goal

pub put_with-requires-clause-long : goal.put_with-requires-clause-long
put_with-requires-clause-long g c κs within =
    let n : length c.args.self.now.cells ≡ length c.self.inside.values.items = ap (λ t. length t.cells) (sym c.self.view_is) ∙ length-cells_of _ _ _ c.self.invariant in
    ap length c.after.ensures ∙ ap (λ t. length (grown c.args.series.now t)) (to_z-of_z w64 c.args.turns c.ranges.turns) ∙ c.requires.values ∙ n ∙ sym (ap length c.as_mut_slice-values.ensures.value)

pub put_with-requires-clause-ticks : goal.put_with-requires-clause-ticks
put_with-requires-clause-ticks g c κs within =
    let n : length c.args.self.now.cells ≡ length c.self.inside.values.items = ap (λ t. length t.cells) (sym c.self.view_is) ∙ length-cells_of _ _ _ c.self.invariant in
    let count : length c.self.inside.changed.items ≡ length c.args.self.now.cells = c.self.invariant.ticks_changed ∙ sym n in
    ap (λ k. length (changed_of c.args.changed.now c.args.number k)) count ∙ c.requires.ticks ∙ sym count

pub returns-clause-cells : goal.returns-clause-cells
returns-clause-cells g c =
    let n : length c.args.self.now.cells ≡ length c.self.inside.values.items = ap (λ t. length t.cells) (sym c.self.view_is) ∙ length-cells_of _ _ _ c.self.invariant in
    let count : length c.self.inside.changed.items ≡ length c.args.self.now.cells = c.self.invariant.ticks_changed ∙ sym n in
    let values = back_whole c.self.inside.values.len c.put_with.new.values c.self.inside.values.items (omega arith) (omega arith)
    ∙ c.put_with.ensures.values ∙ c.after.ensures ∙ ap (grown c.args.series.now) (to_z-of_z w64 c.args.turns c.ranges.turns) in
    let changed = ap (λ (t : TicksState). t.items) c.put_with.ensures.ticks ∙ ap (changed_of c.args.changed.now c.args.number) count in
    let added = sym (added_of c.self.inside.values.items c.self.inside.added.items c.self.inside.changed.items c.self.invariant.ticks_added c.self.invariant.ticks_changed)
    ∙ ap (λ t. map (λ (cell : Cell). cell.added) t.cells) c.self.view_is in
    λ i. cells_of (values i) (added i) (changed i)
