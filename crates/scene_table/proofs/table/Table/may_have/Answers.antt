use Rattle.std.proofs.Common.{◌-◌, ◌∙◌, length, ap, sym, arith}
use Rattle.std.specs.Prelude.{slice_range}
use Rattle.std.specs.List.{list_any}
use Rattle.std.proofs.lemmas.List.{take_all}
use Rattle.scene_table.specs.Columns.{ColumnState, rows_of}
use Rattle.scene_table.specs.Since.{is_since, rows_have}
use Rattle.scene_table.proofs.TableRows.{rows_any}
use Rattle.scene_table.proofs.table.Table.may_have.Goals as goal

pub returns : goal.returns
returns c low =
    let rows = rows_of c.self.inside.entities.items c.self.inside.columns.items in
    ap (λ t. rows_have c.args.since t.rows) (sym c.self.view_is)
    ∙ ap (rows_have c.args.since) (sym (take_all (length rows - 0) rows (omega arith)))
    ∙ rows_any c.args.since c.self.inside.entities.items c.self.inside.columns.items 0 (length rows) c.self.invariant.long
    ∙ ap (list_any (λ (x : ColumnState). list_any (is_since c.args.since) (slice_range x.cells 0 (length rows)))) (sym c.as_slice.ensures.value)
    ∙ c.may_have.ensures low 0 (length rows)
