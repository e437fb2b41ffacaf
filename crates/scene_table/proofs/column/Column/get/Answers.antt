use Rattle.std.proofs.Common.{◌≡◌, length, ap, sym, ◌∙◌, arith, slice_get}
use Rattle.scene_table.proofs.ColumnCells.{length-cells_of, cells_of-get}
use Rattle.scene_table.proofs.column.Column.get.Goals as goal

pub index-requires : goal.index-requires
index-requires c =
    let n : length c.args.self.now.cells ≡ length c.self.inside.values.items = ap (λ t. length t.cells) (sym c.self.view_is) ∙ length-cells_of _ _ _ c.self.invariant in
    omega arith

pub get-requires : goal.get-requires
get-requires c =
    let n : length c.args.self.now.cells ≡ length c.self.inside.values.items = ap (λ t. length t.cells) (sym c.self.view_is) ∙ length-cells_of _ _ _ c.self.invariant in
    omega (arith, c.self.invariant.ticks_added)

pub get-requires-2 : goal.get-requires-2
get-requires-2 c =
    let n : length c.args.self.now.cells ≡ length c.self.inside.values.items = ap (λ t. length t.cells) (sym c.self.view_is) ∙ length-cells_of _ _ _ c.self.invariant in
    omega (arith, c.self.invariant.ticks_changed)

pub returns : goal.returns
returns c =
    let n : length c.args.self.now.cells ≡ length c.self.inside.values.items = ap (λ t. length t.cells) (sym c.self.view_is) ∙ length-cells_of _ _ _ c.self.invariant in
    ap (λ t. slice_get t.cells c.args.at) (sym c.self.view_is) ∙ cells_of-get _ _ _ c.self.invariant c.args.at _ _ _ (omega arith) c.index.ensures c.get.ensures c.get-2.ensures
