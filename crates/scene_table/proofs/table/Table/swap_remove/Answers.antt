use Rattle.std.proofs.Common.{◌∙◌, ap, arith}
use Rattle.std.specs.Prelude.{slice_get}
use Rattle.scene_table.proofs.ColumnLists.{length-cells_at}
use Rattle.scene_table.proofs.TableFacts.{is_row_at}
use Rattle.scene_table.proofs.table.Table.swap_remove.Goals as goal

pub swap_remove_into-requires-clause-room : goal.swap_remove_into-requires-clause-room
swap_remove_into-requires-clause-room c row is =
    let p = is_row_at c.self.inside.entities.items c.self.inside.columns.items c.args.at row (ap (λ t. slice_get t.rows c.args.at) c.self.view_is ∙ is) in
    omega (arith, length-cells_at c.self.inside.columns.items c.args.at row.cells p.cells_stand, c.in_ok-room.ensures.exact)
