use Rattle.std.proofs.Common.{ap, sym, ◌∙◌}
use Rattle.scene_table.specs.Since.{is_since}
use Rattle.scene_kinds.specs.Cells.{shown}
use Rattle.scene_pass.proofs.RowSteps.{name_pushed, name_passed}
use Rattle.scene_pass.proofs.cells.push_names.Goals.{then-has+in_ok-push, else-has}
use Rattle.scene_pass.proofs.cells.push_names.Goals as goal

pub cells-preserved : goal.cells-preserved
cells-preserved c = λ row there.
    elim c.if-has.branch [
      | then-has+in_ok-push w ↦ name_pushed (is_since c.args.since) c.entity_at-entity.result c.cells.number row.cells (c.nth_cell-kind.result.0, shown c.nth_cell-kind.result.1) c.cells.names.items _ _ (c.nth_cell-kind.ensures row there) (sym c.has.ensures ∙ w.if-has.true) (ap (λ v. v.items) w.names-is ∙ w.in_ok-push.ensures.items) (c.cells.invariant row there)
      | else-has w ↦ name_passed (is_since c.args.since) c.entity_at-entity.result c.cells.number row.cells (c.nth_cell-kind.result.0, shown c.nth_cell-kind.result.1) c.cells.names.items _ _ (c.nth_cell-kind.ensures row there) (sym c.has.ensures ∙ w.if-has.false) (ap (λ v. v.items) w.names-is) (c.cells.invariant row there)
    ]
