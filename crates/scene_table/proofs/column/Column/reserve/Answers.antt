use Rattle.std.proofs.Common.{◌≡◌, true, false, length, ap, sym, ◌∙◌, arith}
use Rattle.scene_table.specs.Columns.{cells_of}
use Rattle.scene_table.proofs.ColumnCells.{length-cells_of}
use Rattle.std.proofs.lemmas.Result.{on_ok_weaker}
use Rattle.scene_table.proofs.column.Column.reserve.Goals as goal

pub returns-in_err-reserve-clause-there : goal.returns-in_err-reserve-clause-there
returns-in_err-reserve-clause-there c room =
    let n : length c.args.self.now.cells ≡ length c.self.inside.values.items = ap (λ t. length t.cells) (sym c.self.view_is) ∙ length-cells_of _ _ _ c.self.invariant in
    let r = ap (λ t. t.capacity) c.self.view_is in
    absurd (omega (arith, c.in_err-reserve.ensures.full))

pub returns-in_err-reserve-2-clause-there : goal.returns-in_err-reserve-2-clause-there
returns-in_err-reserve-2-clause-there c room =
    let n : length c.args.self.now.cells ≡ length c.self.inside.values.items = ap (λ t. length t.cells) (sym c.self.view_is) ∙ length-cells_of _ _ _ c.self.invariant in
    let r = ap (λ t. t.capacity) c.self.view_is in
    absurd (let refused : false ≡ true = c.in_err-reserve-2.ensures.there (omega (arith, c.self.invariant.ticks_added)) in cc)

pub returns-clause-room : goal.returns-clause-room
returns-clause-room c =
    let n : length (cells_of c.reserve.new.self.items c.reserve-2.new.self.items c.reserve-3.new.self.items) ≡ length c.self.inside.values.items =
    (λ i. length (cells_of (c.reserve.ensures.items i) (c.reserve-2.ensures.items i) (c.reserve-3.ensures.items i))) ∙ length-cells_of _ _ _ c.self.invariant in
    let added = ap length c.reserve-2.ensures.items ∙ c.self.invariant.ticks_added in
    let changed = ap length c.reserve-3.ensures.items ∙ c.self.invariant.ticks_changed in
    on_ok_weaker c.reserve-3.result (λ room. omega (arith, c.in_ok-reserve.ensures.ok, c.in_ok-reserve-2.ensures.room)) c.reserve-3.ensures.room

pub returns-clause-there : goal.returns-clause-there
returns-clause-there c room =
    let n : length c.args.self.now.cells ≡ length c.self.inside.values.items = ap (λ t. length t.cells) (sym c.self.view_is) ∙ length-cells_of _ _ _ c.self.invariant in
    let r = ap (λ t. t.capacity) c.self.view_is in
    c.reserve-3.ensures.there (omega (arith, c.self.invariant.ticks_changed))
