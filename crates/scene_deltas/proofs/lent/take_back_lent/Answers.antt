use Rattle.std.proofs.Common.{◌≡◌, ◌∙◌, true, subst, sym, not}
use Rattle.scene_resources.specs.Resources.{cell_of as resource_of}
use Rattle.scene_model.specs.Can.{can_drop, can_set_resource, is_good_cell}
use Rattle.scene_model.proofs.CanParts.{drop, unshift}
use Rattle.scene_deltas.specs.declared.delta.Delta.{Delta}
use Rattle.scene_deltas.specs.Deltas.{FitsBack}
use Rattle.scene_deltas.proofs.Ready.{cells_last}
use Rattle.scene_deltas.proofs.ShiftedKinds.{kind_low}
use Rattle.scene_deltas.proofs.Asked.{cell_is_good, from_now}
use Rattle.scene_deltas.proofs.lent.take_back_lent.Goals as goal

pub drop_last-requires : goal.drop_last-requires
drop_last-requires c =
    let w = c.args.world.now.world in
    let can = subst (λ (d : Delta). FitsBack d w) c.in-Spawned.is c.requires.fits in
    subst (λ cells. can_drop w c.in-Spawned.entity cells c.in-Spawned.fresh ≡ true) (sym (cells_last w c.in-Spawned.entity _ c.tick-tick.ensures.valid ((drop w c.in-Spawned.entity c.in-Spawned.cells c.in-Spawned.fresh).0 can).row)) can

pub unshift_row_reserved-requires-clause-low : goal.unshift_row_reserved-requires-clause-low
unshift_row_reserved-requires-clause-low c =
    let w = c.args.world.now.world in
    let can = subst (λ (d : Delta). FitsBack d w) c.in-Shifted.is c.requires.fits in
    kind_low w c.in-Shifted.entity c.in-Shifted.kind c.in-Shifted.cell (not c.in-Shifted.inward) c.tick-tick.ensures.valid ((unshift w c.in-Shifted.entity c.in-Shifted.place c.in-Shifted.kind c.in-Shifted.cell c.in-Shifted.inward).0 can).moves

pub set_cell-after-requires-clause-good : goal.set_cell-after-requires-clause-good
set_cell-after-requires-clause-good c =
    let w = c.args.world.now.world in
    let can = subst (λ (d : Delta). FitsBack d w) c.in-CellSet.is c.requires.fits in
    subst (λ cell. is_good_cell w c.in-CellSet.kind cell ≡ true) (sym c.plain_cell.ensures) (cell_is_good w c.in-CellSet.entity c.in-CellSet.kind c.in-CellSet.after c.in-CellSet.before can)

pub set_resource_reserved-after-requires-clause-can : goal.set_resource_reserved-after-requires-clause-can
set_resource_reserved-after-requires-clause-can c =
    let w = c.args.world.now.world in
    let can = subst (λ (d : Delta). FitsBack d w) c.in-ResourceSet.is c.requires.fits in
    (λ i. can_set_resource w (c.as_str.ensures i) (resource_of w.resources (c.as_str.ensures i)) (c.plain_copy.ensures i))
    ∙ from_now w c.in-ResourceSet.name c.in-ResourceSet.after c.in-ResourceSet.before can
