use Rattle.std.proofs.Common.{subst, sym, ◌∙◌}
use Rattle.std.proofs.lemmas.Bool.{ne_eqb}
use Rattle.std.proofs.lemmas.Bool.Decides.{same_from_decides}
use Rattle.scene_alloc.proofs.Decided.{refuted}
use Rattle.scene_model.proofs.CanParts.{HasRow, row_there}
use Rattle.scene_deltas.proofs.StandingRows.{has_cells_of, none_stands, stands_only}
use Rattle.scene_deltas.proofs.fits.has_row.Goals as goal

pub returns-then-at-place : goal.returns-then-at-place
returns-then-at-place c =
    let w = c.args.world.now.world in
    let e = c.args.entity in
    let s = c.in-Some.ensures.some in
    let cells = c.args.cells.now in
    let same = has_cells_of w e c.in-Some.table.now c.in-Some.at c.tick-tick.ensures.valid s cells in
    let told = c.has_cells.ensures s.row s.there in
    same_from_decides _ _ (
      λ h. subst (λ n. HasRow w e n cells) c.if-at-place.true (same.0 (told.0 h)),
      λ has. told.1 (same.1 (subst (λ n. HasRow w e n cells) (sym c.if-at-place.true) has)),
    ) (row_there w e c.args.place cells)

pub returns-else-at-place : goal.returns-else-at-place
returns-else-at-place c =
    let w = c.args.world.now.world in
    ne_eqb _ _ c.if-at-place.false ∙ refuted (row_there w c.args.entity c.args.place c.args.cells.now) (λ has.
    c.if-at-place.false (stands_only w c.args.entity c.in-Some.table.now c.in-Some.at c.tick-tick.ensures.valid c.in-Some.ensures.some c.args.place c.args.cells.now has))

pub returns-in-None : goal.returns-in-None
returns-in-None c =
    let w = c.args.world.now.world in
    refuted (row_there w c.args.entity c.args.place c.args.cells.now) (none_stands w c.args.entity c.args.place c.args.cells.now c.in-None.ensures.none)
