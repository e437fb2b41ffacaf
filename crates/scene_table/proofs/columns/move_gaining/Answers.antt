use Rattle.std.proofs.Common.{◌∙◌, ◌++◌, take, drop, arith, ap}
use Rattle.scene_table.proofs.ColumnLists.{length-cells_at}
use Rattle.scene_table.proofs.Parts.{low_cells, high_cells, gained_between}
use Rattle.scene_table.proofs.columns.move_gaining.Goals as goal

pub returns-clause-put : goal.returns-clause-put
returns-clause-put c cells kind are =
    let n = c.args.number in
    let low = c.split_at_mut-target_low.result.0.now in
    let gained = c.split_at_mut-gained.result.0.now in
    let high = c.split_at_mut-gained.result.1.now in
    let count = length-cells_at c.args.source.now c.args.at cells are in
    gained_between c.args.to n kind cells c.args.cell c.args.target.now low gained high c.move_cells.new.target c.move_cells-2.new.target c.put_back.new.self c.index-gained-0.result
    (c.split_at_mut-target_low.ensures.value ∙ ap (low ++◌) c.split_at_mut-gained.ensures.value)
    c.split_at_mut-gained.ensures.front_len
    c.split_at_mut-target_low.ensures.front_len
    (omega (arith, c.requires.number))
    (c.move_cells.ensures.put (take n cells) (low_cells c.args.source.now c.split_at_mut-low.result.0.now c.args.at n cells are c.split_at_mut-low.ensures.front))
    (c.move_cells-2.ensures.put (drop n cells) (high_cells c.args.source.now c.split_at_mut-low.result.1.now c.args.at n cells are c.split_at_mut-low.ensures.back))
    c.put_back.ensures
