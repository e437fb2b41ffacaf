use Rattle.std.proofs.Common.{◌∙◌, ◌++◌, take, drop, arith, ap}
use Rattle.std.proofs.lemmas.List.{drop-drop}
use Rattle.scene_table.proofs.ColumnLists.{length-cells_at}
use Rattle.scene_table.proofs.Parts.{low_cells, high_cells, lost_between, left_around}
use Rattle.scene_table.proofs.columns.move_losing.Goals as goal

pub returns-clause-lost : goal.returns-clause-lost
returns-clause-lost c cells are =
    let low = c.split_at_mut-low.result.0.now in
    lost_between c.args.at c.args.number cells c.args.source.now low c.split_at_mut-lost.result.0.now c.split_at_mut-lost.result.1.now c.take.result c.index-lost-0.result are
    (c.split_at_mut-low.ensures.value ∙ ap (low ++◌) c.split_at_mut-lost.ensures.value)
    c.split_at_mut-lost.ensures.front_len
    c.split_at_mut-low.ensures.front_len
    c.take.ensures.cell

pub returns-clause-put : goal.returns-clause-put
returns-clause-put c cells are =
    let n = c.args.number in
    let count = length-cells_at c.args.source.now c.args.at cells are in
    let rest = high_cells c.args.source.now c.split_at_mut-low.result.1.now c.args.at n cells are c.split_at_mut-low.ensures.back in
    left_around c.args.to n cells c.args.target.now c.split_at_mut-target_low.result.0.now c.split_at_mut-target_low.result.1.now c.move_cells.new.target c.move_cells-2.new.target (drop 1 (drop n cells))
    c.split_at_mut-target_low.ensures.value
    c.split_at_mut-target_low.ensures.front_len
    (omega (arith, c.requires.number, c.requires.count))
    (drop-drop 1 n cells)
    (c.move_cells.ensures.put (take n cells) (low_cells c.args.source.now c.split_at_mut-low.result.0.now c.args.at n cells are c.split_at_mut-low.ensures.front))
    (c.move_cells-2.ensures.put (drop 1 (drop n cells)) (high_cells c.split_at_mut-low.result.1.now c.split_at_mut-lost.result.1.now c.args.at 1 (drop n cells) rest c.split_at_mut-lost.ensures.back))
