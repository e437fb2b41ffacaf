use Rattle.std.proofs.Common.{◌≡◌, ℕ, ◌<◌, ◌≤◌, ◌++◌, [], ◌∷◌, ap, get_or, length, length-append, arith, rules}
use Rattle.scene_kinds.specs.declared.cell.Cell.{Cell}
use Rattle.scene_file.proofs.RowsTaken.{all_cells, no_cells, one_cell}
use Rattle.scene_file.proofs.usual_rows.take_cells.Goals as goal

pub cells-init : goal.cells-init
cells-init c =
    let none : c.in_ok-row.row.items ≡ [] = search rules in
    (no_cells c.args.kinds.now c.args.shapes.now c.take_list.new.reader c.in_ok-row.row.items none, omega (arith, ap length none))

pub cells-preserved : goal.cells-preserved
cells-preserved c =
    let row = c.cells.row.items in
    let n = c.len-place.result in
    let at : n ≡ length row = search rules in
    let within : n < length c.args.kinds.now = search rules in
    let grown : c.push.new.self.items ≡ row ++ (get_or c.args.kinds.now n 0, c.in_ok-cell.cell) ∷ [] = search rules in
    let cell : ℕ × Cell = (get_or c.args.kinds.now n 0, c.in_ok-cell.cell) in (
      one_cell c.args.kinds.now c.args.shapes.now c.take_list.new.reader row c.push.new.self.items n c.in_ok-cell.cell c.cells.reader c.take_cell.new.reader
          at grown within c.cells.invariant.0 c.in_ok-cell.ensures,
      omega (arith, ap length grown, length-append row (cell ∷ []), at, within),
    )

pub returns : goal.returns
returns c =
    let row = c.cells.row.items in
    let low : length row ≤ length c.args.kinds.now = c.cells.invariant.1 in
    let all : length c.args.kinds.now ≤ length row = search rules in
    let same : length c.args.kinds.now ≡ length c.args.shapes.now = search rules in
    let many : length row ≡ length c.args.shapes.now = omega (arith, low, all, same) in
    all_cells c.args.kinds.now c.args.shapes.now c.take_list.new.reader c.args.reader.now c.cells.reader c.take_list_end.new.reader row
    c.in_ok-take_list.ensures many c.cells.invariant.0 c.in_ok-take_list_end.ensures
