use Rattle.std.proofs.Common.{◌∙◌, ap, option_copied, None, Some}
use Rattle.scene_resources.specs.Resources.{StoredResources}
use Rattle.scene_resources.proofs.Cells.{found_cell}
use Rattle.scene_resources.proofs.Names.{holds_own}
use Rattle.scene_resources.proofs.resources.Resources.get.Goals as goal

pub returns-in_err-get-clause-cell : goal.returns-in_err-get-clause-cell
returns-in_err-get-clause-cell c =
    ap (λ r. option_copied r) c.from_residual.ensures
    ∙ found_cell c.self.inside.cells.entries c.args.self.now.cells c.args.name.now None (ap (λ (s : StoredResources). s.cells) c.self.view_is) c.in_err-get.ensures.value

pub returns-clause-cell : goal.returns-clause-cell
returns-clause-cell c =
    c.as_ref.ensures.value
    ∙ found_cell c.self.inside.cells.entries c.args.self.now.cells c.args.name.now (Some c.in_ok-get.field-0.now) (ap (λ (s : StoredResources). s.cells) c.self.view_is) c.in_ok-get.ensures.value

pub returns-in_err-get-clause-held : goal.returns-in_err-get-clause-held
returns-in_err-get-clause-held c = holds_own c.self.inside.cells.entries c.args.self.now c.self.view_is

pub returns-clause-held : goal.returns-clause-held
returns-clause-held c = holds_own c.self.inside.cells.entries c.args.self.now c.self.view_is
