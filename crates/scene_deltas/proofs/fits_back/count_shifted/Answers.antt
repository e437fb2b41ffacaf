use Rattle.std.proofs.Common.{length, ap, subst, sym, ◌∙◌}
use Rattle.scene_kinds.specs.Cells.{mask_of}
use Rattle.scene_table.specs.Tables.{rows_at}
use Rattle.scene_model.specs.Raw.{cells_of, shifted}
use Rattle.scene_model.proofs.CanParts.{CanMove, move}
use Rattle.scene_deltas.proofs.ShiftedKinds.{kind_low, mask_with, mask_without}
use Rattle.scene_deltas.proofs.fits_back.count_shifted.Goals as goal

pub set_without-requires : goal.set_without-requires
set_without-requires c = kind_low c.args.world.now.world c.args.entity c.args.kind c.args.cell.now c.args.inward c.tick-tick.ensures.valid
    ((move c.args.world.now.world (cells_of c.args.world.now.world c.args.entity) c.args.kind c.args.cell.now c.args.inward).0 c.requires)

pub returns-then-inward : goal.returns-then-inward
returns-then-inward c =
    let w = c.args.world.now.world in
    let cells = cells_of w c.args.entity in
    c.row_count.ensures
    ∙ ap (λ m. length (rows_at w.tables m)) (c.set_with.ensures
    ∙ mask_with w c.args.entity c.args.kind c.args.cell.now c.mask_in-mask.result c.tick-tick.ensures.valid c.mask_in-mask.ensures
    ∙ ap (λ b. mask_of (shifted cells c.args.kind c.args.cell.now b)) (sym c.if-inward.true))

pub returns-else-inward : goal.returns-else-inward
returns-else-inward c =
    let w = c.args.world.now.world in
    let cells = cells_of w c.args.entity in
    let can = subst (CanMove w cells c.args.kind c.args.cell.now) c.if-inward.false ((move w cells c.args.kind c.args.cell.now c.args.inward).0 c.requires) in
    c.row_count-else-inward.ensures
    ∙ ap (λ m. length (rows_at w.tables m)) (c.set_without.ensures
    ∙ mask_without w c.args.entity c.args.kind c.args.cell.now c.mask_in-mask.result c.tick-tick.ensures.valid c.mask_in-mask.ensures can
    ∙ ap (λ b. mask_of (shifted cells c.args.kind c.args.cell.now b)) (sym c.if-inward.false))
