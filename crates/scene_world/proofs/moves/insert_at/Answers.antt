use Rattle.std.proofs.Common.{◌≡◌, ◌∙◌, ap, sym, length}
use Rattle.scene_kinds.specs.declared.cell.Cell.{Cell}
use Rattle.scene_kinds.specs.Cells.{with_cell}
use Rattle.scene_kinds.specs.KindSet.{set_with}
use Rattle.scene_kinds.proofs.KindSets.{mask_of-with_cell}
use Rattle.scene_table.specs.Table.{row_with_cell}
use Rattle.scene_table.specs.Tables.{rows_at, row_at, without_row, with_row_back}
use Rattle.scene_model.specs.Commands.{after_insert, after_move}
use Rattle.scene_archetypes.proofs.RowKinds.{kind_absent, cell_absent}
use Rattle.scene_table.proofs.ReturnedRows.{moved_last}
use Rattle.scene_archetypes.proofs.Rooms.{gained_apart}
use Rattle.scene_archetypes.proofs.WrittenHomes.{row_standing}
use Rattle.scene_world.proofs.moves.insert_at.Goals as goal

pub move_with-requires-clause-lacks : goal.move_with-requires-clause-lacks
move_with-requires-clause-lacks c =
    let t = c.args.tables.now.tables in
    let row = row_standing t c.args.entity c.args.home c.requires.stands in
    kind_absent c.args.home.mask c.args.home.place c.args.kind (rows_at t c.args.home.mask) row.0 row.1.0 (c.requires.kinds row.0 row.1.0) (sym c.in-None.is ∙ c.added_at.ensures)

pub returns-in_ok-reserve-in-None-clause-ok : goal.returns-in_ok-reserve-in-None-clause-ok
returns-in_ok-reserve-in-None-clause-ok c = λ row at.
    let t = c.args.tables.now.tables in
    let h = c.args.home in
    let has = c.requires.kinds row at in
    let absent = sym c.in-None.is ∙ c.added_at.ensures in
    let lacks = kind_absent h.mask h.place c.args.kind (rows_at t h.mask) row at has absent in
    let mask : c.set_with-target.result ≡ set_with h.mask c.args.kind = c.set_with-target.ensures in
    let cells = sym (mask_of-with_cell row.cells c.args.kind c.new.result has.ascending ∙ ap (λ m. set_with m c.args.kind) has.kinds) in
    let last = c.len-last.ensures ∙ ap (λ u. length (rows_at u c.set_with-target.result)) c.reserve.ensures.tables ∙ ap (λ m. length (rows_at t m)) mask in
    c.move_with.ensures.tables row (ap (λ u. row_at u h) c.reserve.ensures.tables ∙ at)
    ∙ ap (λ u. with_row_back (without_row u h) c.len-last.result (row_with_cell row c.args.kind c.new.result)) c.reserve.ensures.tables
    ∙ moved_last t h (row_with_cell row c.args.kind c.new.result) (set_with h.mask c.args.kind) c.len-last.result cells (gained_apart h.mask c.args.kind lacks) last
    ∙ ap (λ (cell : Cell). after_move t h row (with_cell row.cells c.args.kind cell)) c.new.ensures.cell
    ∙ sym (ap (after_insert c.args.tick t h row c.args.kind c.args.value) (cell_absent h.place c.args.kind (rows_at t h.mask) row at absent))
