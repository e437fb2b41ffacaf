use Rattle.std.proofs.Common.{◌<◌, ◌≢◌, ◌∙◌, length, arith, ap, refl, sym, subst, get_or, get_or-set_other}
use Rattle.std.specs.Prelude.{slice_get}
use Rattle.scene_table.specs.Columns.{out_of_column, HasRoomAt}
use Rattle.scene_table.proofs.ColumnLists.{mapped_here, mapped_step, mapped_true, mapped_end, cell_read, length-cells_at, put_step}
use Rattle.scene_table.proofs.RowLists.{element_at}
use Rattle.scene_table.proofs.columns.move_cells.Goals as goal

pub move_to-requires-clause-from : goal.move_to-requires-clause-from
move_to-requires-clause-from c = mapped_true (out_of_column c.args.at) (λ column. c.args.at < length column.cells) c.loop-i.i c.args.source.now c.loop-i.source c.index-source-i.result c.requires.within c.loop-i.invariant.left c.loop-i-test.true

pub move_to-requires-clause-within : goal.move_to-requires-clause-within
move_to-requires-clause-within c = (c.loop-i.invariant.room c.loop-i.i c.index-target-i.result (omega arith) (omega (arith, c.requires.count))).within

pub move_to-requires-clause-room : goal.move_to-requires-clause-room
move_to-requires-clause-room c = (c.loop-i.invariant.room c.loop-i.i c.index-target-i.result (omega arith) (omega (arith, c.requires.count))).room

pub loop-i-preserved : goal.loop-i-preserved
loop-i-preserved c =
    let i = c.loop-i.i in
    let here = mapped_here (out_of_column c.args.at) i c.args.source.now c.loop-i.source c.index-source-i.result c.loop-i.invariant.left in
    record {
      left = mapped_step (out_of_column c.args.at) i c.args.source.now c.loop-i.source c.move_to.new.self c.index-source-i.result c.loop-i.invariant.left c.loop-i-test.true c.move_to.ensures.left;
      put = λ cells are.
          let count = length-cells_at c.args.source.now c.args.at cells are in
          let within : i < length cells = omega arith in
          let other = (element_at cells i within).0 in
          let cell = (get_or cells i other).1 in
          let read = ap (λ t. slice_get t.cells c.args.at) here ∙ cell_read c.args.source.now c.args.at cells i c.index-source-i.result other are c.loop-i-test.true in
          put_step c.args.to i cells c.args.target.now c.loop-i.target c.move_to.new.target c.index-target-i.result cell other (c.loop-i.invariant.put cells are)
          within (omega (arith, c.requires.count)) refl (c.move_to.ensures.put cell read);
      room = λ k d l m.
          let ne : k ≢ i = omega arith in
          subst (HasRoomAt c.args.to) (sym (get_or-set_other c.loop-i.target i k c.move_to.new.target d ne)) (c.loop-i.invariant.room k d (omega arith) m);
    }

pub returns-clause-left : goal.returns-clause-left
returns-clause-left c = mapped_end (out_of_column c.args.at) c.loop-i.i c.args.source.now c.loop-i.source c.loop-i.invariant.left c.loop-i-test.false
