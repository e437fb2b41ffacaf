use Rattle.std.proofs.Common.{◌≡◌, true, subst, sym, ◌∙◌}
use Rattle.scene_resources.specs.Resources.{cell_of as resource_of}
use Rattle.scene_model.specs.Can.{can_move, can_set_resource, is_good_cell}
use Rattle.scene_model.specs.Raw.{cells_of}
use Rattle.scene_model.proofs.CanParts.{shift}
use Rattle.scene_deltas.specs.declared.delta.Delta.{Delta}
use Rattle.scene_deltas.specs.Deltas.{FitsOn}
use Rattle.scene_deltas.proofs.ShiftedKinds.{kind_low}
use Rattle.scene_deltas.proofs.Asked.{cell_moves, cell_is_good, from_now}
use Rattle.scene_deltas.proofs.lent.make_again_lent.Goals as goal

pub shift_row_reserved-requires-clause-low : goal.shift_row_reserved-requires-clause-low
shift_row_reserved-requires-clause-low c =
    let w = c.args.world.now.world in
    let can = subst (λ (d : Delta). FitsOn d w) c.in-Shifted.is c.requires.fits in
    kind_low w c.in-Shifted.entity c.in-Shifted.kind c.in-Shifted.cell c.in-Shifted.inward c.tick-tick.ensures.valid ((shift w c.in-Shifted.entity c.in-Shifted.place c.in-Shifted.kind c.in-Shifted.cell c.in-Shifted.inward).0 can).moves

pub shift_row_reserved-requires-clause-moves : goal.shift_row_reserved-requires-clause-moves
shift_row_reserved-requires-clause-moves c =
    let w = c.args.world.now.world in
    let can = subst (λ (d : Delta). FitsOn d w) c.in-Shifted.is c.requires.fits in
    subst (λ cell. can_move w (cells_of w c.in-Shifted.entity) c.in-Shifted.kind cell c.in-Shifted.inward ≡ true) (sym c.plain_cell.ensures) (cell_moves w c.in-Shifted.entity c.in-Shifted.place c.in-Shifted.kind c.in-Shifted.cell c.in-Shifted.inward can)

pub set_cell-before-requires-clause-good : goal.set_cell-before-requires-clause-good
set_cell-before-requires-clause-good c =
    let w = c.args.world.now.world in
    let can = subst (λ (d : Delta). FitsOn d w) c.in-CellSet.is c.requires.fits in
    subst (λ cell. is_good_cell w c.in-CellSet.kind cell ≡ true) (sym c.plain_cell-in-CellSet.ensures) (cell_is_good w c.in-CellSet.entity c.in-CellSet.kind c.in-CellSet.before c.in-CellSet.after can)

pub set_resource_reserved-before-requires-clause-can : goal.set_resource_reserved-before-requires-clause-can
set_resource_reserved-before-requires-clause-can c =
    let w = c.args.world.now.world in
    let can = subst (λ (d : Delta). FitsOn d w) c.in-ResourceSet.is c.requires.fits in
    (λ i. can_set_resource w (c.as_str.ensures i) (resource_of w.resources (c.as_str.ensures i)) (c.plain_copy.ensures i))
    ∙ from_now w c.in-ResourceSet.name c.in-ResourceSet.before c.in-ResourceSet.after can
