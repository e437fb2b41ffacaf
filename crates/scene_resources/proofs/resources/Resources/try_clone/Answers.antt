use Rattle.std.proofs.Common.{◌∙◌, rules}
use Rattle.scene_resources.proofs.Cells.{cells_clone}
use Rattle.scene_resources.proofs.resources.Resources.try_clone.Goals as goal

pub returns : goal.returns
returns c = cells_clone _ (λ x y h. search rules) c.self.inside.cells.entries c.in_ok-clone.field-0.entries c.in_ok-clone.ensures.cases ∙ c.self.view_is
