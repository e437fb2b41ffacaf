use Rattle.std.proofs.Common.{◌≡◌, ◌∙◌, length, get_or, map, ap, sym, rules, w64}
use Rattle.std.specs.Prelude.{slice_set, nat_eq}
use Rattle.std.proofs.lemmas.Int.{to_z-of_z}
use Rattle.scene_kinds.specs.declared.cell.Cell.{Cell}
use Rattle.scene_table.specs.Columns.{ColumnState, cells_of}
use Rattle.scene_table.specs.Runs.{changed_of, grown, turned}
use Rattle.scene_table.proofs.ColumnsTurned.{with_found, with_missed}
use Rattle.scene_table.proofs.TableFacts.{number_within}
use Rattle.scene_table.proofs.columns.put_column.Goals as goal

pub offset_bounds-columns-at : goal.offset_bounds-columns-at
offset_bounds-columns-at g c =
    let within = number_within (λ (x : ColumnState). nat_eq c.args.of_run.now.kind x.kind) c.args.columns.now c.in-Some.at (sym c.in-Some.ensures) in
    search rules

pub bounds-columns-at : goal.bounds-columns-at
bounds-columns-at g c = number_within (λ (x : ColumnState). nat_eq c.args.of_run.now.kind x.kind) c.args.columns.now c.in-Some.at (sym c.in-Some.ensures)

pub put_series-requires-clause-values : goal.put_series-requires-clause-values
put_series-requires-clause-values g c κs within =
    ap (λ t. length (grown c.args.of_run.now.series t)) (to_z-of_z w64 c.args.turns c.ranges.turns)
    ∙ sym (c.requires.long c.in-Some.at c.index-columns-at.result (number_within (λ (x : ColumnState). nat_eq c.args.of_run.now.kind x.kind) c.args.columns.now c.in-Some.at (sym c.in-Some.ensures)))

pub put_series-requires-clause-ticks : goal.put_series-requires-clause-ticks
put_series-requires-clause-ticks g c κs within =
    let count = c.requires.long c.in-Some.at c.index-columns-at.result (number_within (λ (x : ColumnState). nat_eq c.args.of_run.now.kind x.kind) c.args.columns.now c.in-Some.at (sym c.in-Some.ensures)) in
    ap (λ n. length (changed_of c.args.changed.now c.args.number n)) count ∙ c.requires.ticks ∙ sym count

pub returns-in-Some : goal.returns-in-Some
returns-in-Some g c =
    let old = get_or c.args.columns.now c.in-Some.at c.index-columns-at.result in
    let same : c.put_series.new.self ≡ record old { cells = turned c.args.number c.args.of_run.now c.args.turns c.args.changed.now old } = λ i. record {
      kind = c.put_series.ensures.kind i;
      cells = (c.put_series.ensures.cells ∙ ap (λ t. cells_of (grown c.args.of_run.now.series t) (map (λ (cell : Cell). cell.added) old.cells) (changed_of c.args.changed.now c.args.number (length old.cells))) (to_z-of_z w64 c.args.turns c.ranges.turns)) i;
      capacity = c.put_series.ensures.capacity i;
    } in
    ap (slice_set c.args.columns.now c.in-Some.at) same
    ∙ with_found c.args.of_run.now.kind (turned c.args.number c.args.of_run.now c.args.turns c.args.changed.now) c.args.columns.now c.in-Some.at c.index-columns-at.result (sym c.in-Some.ensures)

pub returns-in_default : goal.returns-in_default
returns-in_default g c = with_missed c.args.of_run.now.kind (turned c.args.number c.args.of_run.now c.args.turns c.args.changed.now) c.args.columns.now (sym c.in_default.ensures)
