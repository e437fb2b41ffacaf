use Rattle.std.proofs.Common.{◌≡◌, ◌∙◌, length, ap, sym, arith}
use Rattle.scene_table.specs.Rows.{put_back}
use Rattle.scene_table.specs.Tables.{row_for}
use Rattle.scene_table.proofs.Swaps.{put_back_last}
use Rattle.scene_table.proofs.TableRows.{length-rows_of}
use Rattle.scene_table.proofs.table.Table.push_row_reserved.Goals as goal

pub unswap_reserved-requires-clause-within : goal.unswap_reserved-requires-clause-within
unswap_reserved-requires-clause-within c =
    let n = ap (λ t. length t.rows) (sym c.self.view_is) ∙ length-rows_of c.self.inside.entities.items c.self.inside.columns.items c.self.invariant.long in
    omega (arith, c.len-last.ensures)

pub returns-clause-rows : goal.returns-clause-rows
returns-clause-rows c =
    let n = ap (λ t. length t.rows) (sym c.self.view_is) ∙ length-rows_of c.self.inside.entities.items c.self.inside.columns.items c.self.invariant.long in
    let last : c.len-last.result ≡ length c.args.self.now.rows = omega (arith, c.len-last.ensures) in
    c.unswap_reserved.ensures.rows ∙ ap (λ cells. put_back c.args.self.now.rows c.len-last.result (row_for c.args.row.entity cells)) c.own.ensures
    ∙ ap (λ k. put_back c.args.self.now.rows k c.args.row) last ∙ put_back_last c.args.self.now.rows c.args.row
