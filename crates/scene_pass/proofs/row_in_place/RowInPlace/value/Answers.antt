use Rattle.std.proofs.Common.{ap, ◌∙◌, Some, None}
use Rattle.std.specs.Ordering.{nat_cmp}
use Rattle.std.specs.FinMap.Entries.{find}
use Rattle.scene_kinds.specs.Cells.{shown}
use Rattle.scene_pass.specs.Changes.{values_of}
use Rattle.scene_pass.proofs.ReadRows.{value_there}
use Rattle.scene_pass.proofs.row_in_place.RowInPlace.value.Goals as goal

pub returns-in-Some : goal.returns-in-Some
returns-in-Some c =
    value_there c.self.inside.table.now.rows c.self.inside.at c.args.kind (Some (shown c.in-Some.cell)) c.self.invariant.within c.in-Some.ensures
    ∙ ap (λ r. find nat_cmp c.args.kind (values_of r)) c.self.view_is

pub returns-in-None : goal.returns-in-None
returns-in-None c =
    value_there c.self.inside.table.now.rows c.self.inside.at c.args.kind None c.self.invariant.within c.in-None.ensures
    ∙ ap (λ r. find nat_cmp c.args.kind (values_of r)) c.self.view_is
