use Rattle.std.proofs.Common.{◌∙◌, sym}
use Rattle.std.specs.Prelude.{slice_range}
use Rattle.std.specs.List.{list_any}
use Rattle.scene_table.specs.Since.{is_since}
use Rattle.scene_table.proofs.ColumnCells.{any_added, any_changed}
use Rattle.scene_table.proofs.column.Column.may_have.Goals as goal

pub returns-in-Added : goal.returns-in-Added
returns-in-Added c low from to =
    (λ i. list_any (is_since (c.in-Added.is i)) (slice_range (sym c.self.view_is i).cells from to))
    ∙ any_added _ _ _ c.self.invariant c.in-Added.tick from to ∙ c.may_pass.ensures low from to

pub returns-in-Changed : goal.returns-in-Changed
returns-in-Changed c low from to =
    (λ i. list_any (is_since (c.in-Changed.is i)) (slice_range (sym c.self.view_is i).cells from to))
    ∙ any_changed _ _ _ c.self.invariant c.in-Changed.tick from to ∙ c.may_pass-in-Changed.ensures low from to
