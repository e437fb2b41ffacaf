use Rattle.std.proofs.Common.{sym, ap, ◌∙◌, Some}
use Rattle.scene_model.specs.World.{rows_of}
use Rattle.scene_deltas.proofs.StandingRows.{rows_whole, stands_in_whole}
use Rattle.scene_deltas.proofs.fits_back.standing_in_whole.Goals as goal

pub returns-clause-some : goal.returns-clause-some
returns-clause-some c =
    let mask = c.in_ok-table.ensures.mask in
    stands_in_whole c.args.world.now.world c.args.entity c.in_ok-table.table.now c.in_ok-place.place
    (sym c.in_ok-mask.ensures ∙ ap (λ m. Some m) (sym mask)) (sym c.in_ok-place.ensures) (ap (rows_of c.args.world.now.world) mask ∙ sym c.in_ok-table.ensures.rows)

pub returns-clause-rows : goal.returns-clause-rows
returns-clause-rows c =
    rows_whole c.args.world.now.world c.in_ok-table.table.now (ap (rows_of c.args.world.now.world) c.in_ok-table.ensures.mask ∙ sym c.in_ok-table.ensures.rows)
