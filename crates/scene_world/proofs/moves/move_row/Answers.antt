use Rattle.std.proofs.Common.{◌≤◌, ◌<◌, ◌∙◌, length, ap, sym, subst, is_some}
use Rattle.scene_kinds.specs.Cells.{mask_of}
use Rattle.scene_kinds.specs.KindSet.{has_kind, set_with, set_without}
use Rattle.scene_kinds.proofs.KindSets.{has_kind-mask_of, mask_of-with_cell, mask_of-without_cell}
use Rattle.scene_table.specs.Tables.{rows_at}
use Rattle.scene_archetypes.specs.KindTables.{capacity_at}
use Rattle.scene_archetypes.proofs.WrittenHomes.{row_standing}
use Rattle.scene_model.specs.Raw.{shifted}
use Rattle.scene_world.specs.Moves.{IsCellToMove}
use Rattle.scene_world.proofs.moves.move_row.Goals as goal

-- inward: the row lacks the kind, and its new kind set is the old one with it
pub move_with-requires-clause-kinds : goal.move_with-requires-clause-kinds
move_with-requires-clause-kinds c = λ row at. (c.requires.moves row at).kinds

pub move_with-requires-clause-lacks : goal.move_with-requires-clause-lacks
move_with-requires-clause-lacks c =
    let row = row_standing c.args.tables.now.tables c.args.entity c.args.home c.requires.stands in
    let may = c.requires.moves row.0 row.1.0 in
    let absent = subst (IsCellToMove row.0.cells c.args.kind c.args.cell) c.if-inward.true may.moves in
    ap (λ m. has_kind m c.args.kind) (sym may.kinds.kinds) ∙ has_kind-mask_of row.0.cells c.args.kind may.kinds.ascending ∙ ap is_some absent

pub move_with-requires-clause-place : goal.move_with-requires-clause-place
move_with-requires-clause-place c =
    let row = row_standing c.args.tables.now.tables c.args.entity c.args.home c.requires.stands in
    let may = c.requires.moves row.0 row.1.0 in
    let mask = mask_of-with_cell row.0.cells c.args.kind c.args.cell may.kinds.ascending ∙ ap (λ m. set_with m c.args.kind) may.kinds.kinds in
    subst (λ m. c.args.place ≤ length (rows_at c.args.tables.now.tables m)) (ap (λ b. mask_of (shifted row.0.cells c.args.kind c.args.cell b)) c.if-inward.true ∙ mask) may.within

pub move_with-requires-clause-room : goal.move_with-requires-clause-room
move_with-requires-clause-room c =
    let row = row_standing c.args.tables.now.tables c.args.entity c.args.home c.requires.stands in
    let may = c.requires.moves row.0 row.1.0 in
    let mask = mask_of-with_cell row.0.cells c.args.kind c.args.cell may.kinds.ascending ∙ ap (λ m. set_with m c.args.kind) may.kinds.kinds in
    subst (λ m. length (rows_at c.args.tables.now.tables m) < capacity_at c.args.tables.now.rooms m) (ap (λ b. mask_of (shifted row.0.cells c.args.kind c.args.cell b)) c.if-inward.true ∙ mask) may.room

-- else it has the kind, and its new kind set is the old one without it
pub move_without-cell-requires-clause-kinds : goal.move_without-cell-requires-clause-kinds
move_without-cell-requires-clause-kinds c = λ row at. let may = c.requires.moves row at in (may.kinds, may.below)

pub move_without-cell-requires-clause-has : goal.move_without-cell-requires-clause-has
move_without-cell-requires-clause-has c =
    let row = row_standing c.args.tables.now.tables c.args.entity c.args.home c.requires.stands in
    let may = c.requires.moves row.0 row.1.0 in
    let there = subst (IsCellToMove row.0.cells c.args.kind c.args.cell) c.if-inward.false may.moves in
    ap (λ m. has_kind m c.args.kind) (sym may.kinds.kinds) ∙ has_kind-mask_of row.0.cells c.args.kind may.kinds.ascending ∙ ap is_some there

pub move_without-cell-requires-clause-place : goal.move_without-cell-requires-clause-place
move_without-cell-requires-clause-place c =
    let row = row_standing c.args.tables.now.tables c.args.entity c.args.home c.requires.stands in
    let may = c.requires.moves row.0 row.1.0 in
    let mask = mask_of-without_cell row.0.cells c.args.kind may.kinds.ascending may.below c.requires.low ∙ ap (λ m. set_without m c.args.kind) may.kinds.kinds in
    subst (λ m. c.args.place ≤ length (rows_at c.args.tables.now.tables m)) (ap (λ b. mask_of (shifted row.0.cells c.args.kind c.args.cell b)) c.if-inward.false ∙ mask) may.within

pub move_without-cell-requires-clause-room : goal.move_without-cell-requires-clause-room
move_without-cell-requires-clause-room c =
    let row = row_standing c.args.tables.now.tables c.args.entity c.args.home c.requires.stands in
    let may = c.requires.moves row.0 row.1.0 in
    let mask = mask_of-without_cell row.0.cells c.args.kind may.kinds.ascending may.below c.requires.low ∙ ap (λ m. set_without m c.args.kind) may.kinds.kinds in
    subst (λ m. length (rows_at c.args.tables.now.tables m) < capacity_at c.args.tables.now.rooms m) (ap (λ b. mask_of (shifted row.0.cells c.args.kind c.args.cell b)) c.if-inward.false ∙ mask) may.room
