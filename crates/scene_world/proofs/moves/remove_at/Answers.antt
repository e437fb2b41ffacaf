use Rattle.std.proofs.Common.{◌≡◌, ◌∙◌, ap, sym, length, arith}
use Rattle.scene_kinds.specs.KindSet.{set_without}
use Rattle.scene_kinds.proofs.KindSets.{mask_of-without_cell}
use Rattle.scene_table.specs.Table.{row_without_cell}
use Rattle.scene_table.specs.Tables.{rows_at, row_at, without_row, with_row_back}
use Rattle.scene_table.proofs.ReturnedRows.{moved_last}
use Rattle.scene_archetypes.proofs.Rooms.{lost_apart}
use Rattle.scene_world.proofs.moves.remove_at.Goals as goal

pub returns-clause-ok : goal.returns-clause-ok
returns-clause-ok c = λ row at.
    let t = c.args.tables.now.tables in
    let h = c.args.home in
    let has = c.requires.kinds row at in
    let mask : c.set_without-target.result ≡ set_without h.mask c.args.kind = c.set_without-target.ensures in
    let cells = sym (mask_of-without_cell row.cells c.args.kind has.0.ascending has.1 c.requires.low ∙ ap (λ m. set_without m c.args.kind) has.0.kinds) in
    let last = c.len-last.ensures ∙ ap (λ u. length (rows_at u c.set_without-target.result)) c.reserve.ensures.tables ∙ ap (λ m. length (rows_at t m)) mask in
    c.move_without.ensures.tables row (ap (λ u. row_at u h) c.reserve.ensures.tables ∙ at)
    ∙ ap (λ u. with_row_back (without_row u h) c.len-last.result (row_without_cell row c.args.kind)) c.reserve.ensures.tables
    ∙ moved_last t h (row_without_cell row c.args.kind) (set_without h.mask c.args.kind) c.len-last.result cells (lost_apart h.mask c.args.kind (omega (arith, c.if-prove.false)) c.requires.low c.requires.there) last
