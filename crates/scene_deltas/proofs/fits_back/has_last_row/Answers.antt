use Rattle.std.proofs.Common.{sym, ◌∙◌}
use Rattle.std.proofs.lemmas.Bool.{ne_eqb}
use Rattle.std.proofs.lemmas.Bool.Decides.{same_from_decides}
use Rattle.scene_alloc.proofs.Decided.{refuted}
use Rattle.scene_model.proofs.CanParts.{last_row_there}
use Rattle.scene_deltas.proofs.LastRow.{is_last, was_last, none_last}
use Rattle.scene_deltas.proofs.fits_back.has_last_row.Goals as goal

pub returns-then-at-len : goal.returns-then-at-len
returns-then-at-len c =
    let w = c.args.world.now.world in
    let s = c.in-Some.ensures.some in
    let told = c.has_cells.ensures s.row s.there in
    same_from_decides _ _ (
      λ h. is_last w c.args.entity c.in-Some.table.now c.in-Some.at c.tick-tick.ensures.valid s c.in-Some.ensures.rows c.args.cells.now (c.if-at-len.true ∙ c.len.ensures.count) (told.0 h),
      λ last. told.1 (was_last w c.args.entity c.in-Some.table.now c.in-Some.at c.tick-tick.ensures.valid s c.in-Some.ensures.rows c.args.cells.now last).1,
    ) (last_row_there w c.args.entity c.args.cells.now)

pub returns-else-at-len : goal.returns-else-at-len
returns-else-at-len c =
    let w = c.args.world.now.world in
    let s = c.in-Some.ensures.some in
    ne_eqb _ _ c.if-at-len.false ∙ refuted (last_row_there w c.args.entity c.args.cells.now) (λ last.
    c.if-at-len.false ((was_last w c.args.entity c.in-Some.table.now c.in-Some.at c.tick-tick.ensures.valid s c.in-Some.ensures.rows c.args.cells.now last).0 ∙ sym c.len.ensures.count))

pub returns-in-None : goal.returns-in-None
returns-in-None c =
    let w = c.args.world.now.world in
    refuted (last_row_there w c.args.entity c.args.cells.now) (none_last w c.args.entity c.args.cells.now c.tick-tick.ensures.valid c.in-None.ensures.none)
