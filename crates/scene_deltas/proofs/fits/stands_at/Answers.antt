use Rattle.std.proofs.Common.{subst}
use Rattle.std.proofs.lemmas.Bool.{eqb-true, eq-eqb}
use Rattle.std.proofs.lemmas.Bool.Decides.{same_from_decides}
use Rattle.scene_alloc.proofs.Decided.{refuted}
use Rattle.scene_model.specs.Raw.{cells_of}
use Rattle.scene_model.proofs.CanParts.{HasRow, row_there}
use Rattle.scene_deltas.proofs.StandingRows.{none_stands, stands_only, stands_there}
use Rattle.scene_deltas.proofs.fits.stands_at.Goals as goal

pub returns-in-Some : goal.returns-in-Some
returns-in-Some c =
    let w = c.args.world.now.world in
    let e = c.args.entity in
    let s = c.in-Some.ensures.some in
    same_from_decides _ _ (
      λ h. subst (λ n. HasRow w e n (cells_of w e)) (eqb-true _ _ h) (stands_there w e c.in-Some.field-0-0.now c.in-Some.at c.tick-tick.ensures.valid s),
      λ has. eq-eqb _ _ (stands_only w e c.in-Some.field-0-0.now c.in-Some.at c.tick-tick.ensures.valid s c.args.place (cells_of w e) has),
    ) (row_there w e c.args.place (cells_of w e))

pub returns-in-None : goal.returns-in-None
returns-in-None c =
    let w = c.args.world.now.world in
    let cells = cells_of w c.args.entity in
    refuted (row_there w c.args.entity c.args.place cells) (none_stands w c.args.entity c.args.place cells c.in-None.ensures.none)
