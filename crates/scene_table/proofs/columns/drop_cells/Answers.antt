use Rattle.std.proofs.Common.{◌<◌, length}
use Rattle.scene_table.specs.Columns.{out_of_column}
use Rattle.scene_table.proofs.ColumnLists.{mapped_step, mapped_true, mapped_end}
use Rattle.scene_table.proofs.columns.drop_cells.Goals as goal

pub take-requires : goal.take-requires
take-requires c = mapped_true (out_of_column c.args.at) (λ column. c.args.at < length column.cells) c.loop-column.column-index c.args.columns.now c.loop-column.columns c.column-item.result c.requires.within c.loop-column.invariant c.loop-column-test.true

pub loop-column-preserved : goal.loop-column-preserved
loop-column-preserved c = mapped_step (out_of_column c.args.at) c.loop-column.column-index c.args.columns.now c.loop-column.columns c.take.new.self c.column-item.result c.loop-column.invariant c.loop-column-test.true c.take.ensures.left

pub returns : goal.returns
returns c = record { left = mapped_end (out_of_column c.args.at) c.loop-column.column-index c.args.columns.now c.loop-column.columns c.loop-column.invariant c.loop-column-test.false }
