use Rattle.std.proofs.Common.{sym, ◌∙◌}
use Rattle.std.proofs.lemmas.Bool.{eqb-true, eq-eqb}
use Rattle.std.proofs.lemmas.Bool.Decides.{same_from_decides}
use Rattle.scene_alloc.proofs.Decided.{refuted}
use Rattle.scene_model.specs.Raw.{cells_of}
use Rattle.scene_model.proofs.CanParts.{last_row_there}
use Rattle.scene_deltas.proofs.LastRow.{is_last, was_last, none_last, cells_here}
use Rattle.scene_deltas.proofs.fits_back.is_last.Goals as goal

pub returns-in-Some : goal.returns-in-Some
returns-in-Some c =
    let w = c.args.world.now.world in
    let e = c.args.entity in
    let s = c.in-Some.ensures.some in
    same_from_decides _ _ (
      λ h. is_last w e c.in-Some.table.now c.in-Some.at c.tick-tick.ensures.valid s c.in-Some.ensures.rows (cells_of w e) (eqb-true _ _ h ∙ c.len.ensures.count) (cells_here w e c.in-Some.table.now c.in-Some.at s),
      λ last. eq-eqb _ _ ((was_last w e c.in-Some.table.now c.in-Some.at c.tick-tick.ensures.valid s c.in-Some.ensures.rows (cells_of w e) last).0 ∙ sym c.len.ensures.count),
    ) (last_row_there w e (cells_of w e))

pub returns-in-None : goal.returns-in-None
returns-in-None c =
    let w = c.args.world.now.world in
    let cells = cells_of w c.args.entity in
    refuted (last_row_there w c.args.entity cells) (none_last w c.args.entity cells c.tick-tick.ensures.valid c.in-None.ensures.none)
