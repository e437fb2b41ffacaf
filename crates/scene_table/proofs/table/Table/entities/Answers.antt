use Rattle.std.proofs.Common.{◌∙◌, ap, map, sym}
use Rattle.scene_kinds.specs.declared.cells.Row.{Row}
use Rattle.scene_table.proofs.TableRows.{entities_of}
use Rattle.scene_table.proofs.table.Table.entities.Goals as goal

pub returns : goal.returns
returns c =
    c.as_slice.ensures.value ∙ sym (entities_of c.self.inside.entities.items c.self.inside.columns.items c.self.invariant.long) ∙ ap (λ t. map (λ (row : Row). row.entity) t.rows) c.self.view_is
