use Rattle.std.proofs.Common.{◌≡◌, ◌∙◌, ℤ, length, get_or, subst, ap, sym, arith, drop, refl, to_z, of_z, w64}
use Rattle.std.proofs.lemmas.Int.{to_z-of_z}
use Rattle.std.proofs.lemmas.Option.{slice_get_read}
use Rattle.scene_table.specs.declared.run.RunColumn.{RunColumn}
use Rattle.scene_table.specs.Columns.{AreLong}
use Rattle.scene_table.specs.Runs.{all_turned, changed_of, grown}
use Rattle.scene_table.proofs.ColumnsTurned.{turned_end, turned_keeps, turned_next}
use Rattle.scene_table.proofs.columns.put_columns.Goals as goal

pub put_column-requires-clause-long : goal.put_column-requires-clause-long
put_column-requires-clause-long g c κs within =
    let turns = to_z-of_z w64 c.args.turns c.ranges.turns in
    subst (λ (x : RunColumn). AreLong (length (grown x.series (to_z w64 (of_z w64 c.args.turns)))) c.loop-number.columns) (sym c.index-of_run-number.is)
    (c.loop-number.invariant.long c.loop-number.number c.index-of_run-number.result c.loop-number-test.true)

pub put_column-requires-clause-ticks : goal.put_column-requires-clause-ticks
put_column-requires-clause-ticks g c κs within =
    let turns = to_z-of_z w64 c.args.turns c.ranges.turns in
    let there = slice_get_read c.args.of_run.now (length c.args.of_run.now) c.loop-number.number c.index-of_run-number.result refl c.loop-number-test.true c.index-of_run-number.is in
    ap (λ t. length (changed_of c.args.changed.now c.loop-number.number (length (grown c.index-of_run-number.result.series t)))) turns
    ∙ c.requires.ticks c.loop-number.number c.index-of_run-number.result there
    ∙ ap (λ t. length (grown c.index-of_run-number.result.series t)) (sym turns)

pub loop-number-preserved : goal.loop-number-preserved
loop-number-preserved g c =
    let turns : ℤ = to_z w64 (of_z w64 c.args.turns) in
    let here = c.loop-number.number in
    let one = c.index-of_run-number.result in
    let there = slice_get_read c.args.of_run.now (length c.args.of_run.now) here one refl c.loop-number-test.true c.index-of_run-number.is in
    let same = subst (λ (t : ℤ). length (changed_of c.args.changed.now here (length (grown one.series t))) ≡ length (grown one.series t)) (sym (to_z-of_z w64 c.args.turns c.ranges.turns)) (c.requires.ticks here one there) in
    let long = subst (λ (x : RunColumn). AreLong (length (grown x.series turns)) c.loop-number.columns) (sym c.index-of_run-number.is) (c.loop-number.invariant.long here one c.loop-number-test.true) in
    record {
      turned = turned_next here one c.args.of_run.now turns c.args.changed.now c.loop-number.columns c.put_column.new.columns c.loop-number-test.true c.index-of_run-number.is c.put_column.ensures ∙ c.loop-number.invariant.turned;
      long = λ k d l. subst (AreLong (length (grown (get_or c.args.of_run.now k d).series turns))) (sym c.put_column.ensures)
          (turned_keeps here one turns c.args.changed.now (length (grown one.series turns)) (length (grown (get_or c.args.of_run.now k d).series turns)) c.loop-number.columns refl same long (c.loop-number.invariant.long k d l));
    }

pub returns : goal.returns
returns g c =
    let turns = to_z-of_z w64 c.args.turns c.ranges.turns in
    turned_end c.loop-number.number c.args.of_run.now c.args.turns c.args.changed.now c.loop-number.columns (omega (arith, c.loop-number-test.false))
    ∙ subst (λ (t : ℤ). all_turned c.loop-number.number (drop c.loop-number.number c.args.of_run.now) t c.args.changed.now c.loop-number.columns ≡ all_turned 0 c.args.of_run.now t c.args.changed.now c.args.columns.now) turns c.loop-number.invariant.turned
