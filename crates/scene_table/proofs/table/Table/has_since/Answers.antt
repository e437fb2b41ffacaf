use Rattle.std.proofs.Common.{◌≤◌, ◌∙◌, List, length, ap, subst, sym, arith}
use Rattle.std.specs.Prelude.{All, slice_range}
use Rattle.std.specs.List.{list_any}
use Rattle.scene_table.specs.Columns.{ColumnState}
use Rattle.scene_table.specs.Since.{is_since, rows_have}
use Rattle.scene_table.proofs.TableRows.{length-rows_of, rows_any}
use Rattle.scene_table.proofs.table.Table.has_since.Goals as goal

pub have_since-requires : goal.have_since-requires
have_since-requires c =
    let n = ap (λ t. length t.rows) (sym c.self.view_is) ∙ length-rows_of c.self.inside.entities.items c.self.inside.columns.items c.self.invariant.long in
    let reach : All (λ (x : ColumnState). c.args.to ≤ length x.cells) c.self.inside.columns.items = λ k d l. omega (arith, c.self.invariant.long k d l, c.requires.1) in
    (c.requires.0, subst (λ (columns : List ColumnState). All (λ (x : ColumnState). c.args.to ≤ length x.cells) columns) (sym c.as_slice.ensures.value) reach)

pub returns : goal.returns
returns c =
    c.have_since.ensures ∙ ap (list_any (λ (x : ColumnState). list_any (is_since c.args.since) (slice_range x.cells c.args.from c.args.to))) c.as_slice.ensures.value
    ∙ sym (rows_any c.args.since c.self.inside.entities.items c.self.inside.columns.items c.args.from c.args.to c.self.invariant.long)
    ∙ ap (λ t. rows_have c.args.since (slice_range t.rows c.args.from c.args.to)) c.self.view_is
