use Rattle.std.proofs.Common.{ap, sym, ◌∙◌}
use Rattle.std.specs.Prelude.{slice_get}
use Rattle.scene_kinds.specs.Cells.{shown}
use Rattle.scene_pass.specs.Changes.{values_of}
use Rattle.scene_pass.specs.InPlace.{row_in}
use Rattle.scene_pass.proofs.ReadRows.{row_stands, nth_value}
use Rattle.scene_pass.proofs.row_in_place.RowInPlace.nth.Goals as goal

pub returns : goal.returns
returns c =
    let row = row_in c.self.inside.table.now.rows c.self.inside.at in
    ap (λ r. slice_get (values_of r) c.args.number) (sym c.self.view_is)
    ∙ nth_value row c.args.number c.nth_cell-kind.result.0 (shown c.nth_cell-kind.result.1) (c.nth_cell-kind.ensures row (row_stands c.self.inside.table.now.rows c.self.inside.at c.self.invariant.within))
