use Rattle.std.proofs.Common.{sym, ◌∙◌}
use Rattle.scene_kinds.specs.Cells.{shown}
use Rattle.scene_model.proofs.SameTests.{cell_decides}
use Rattle.scene_deltas.proofs.fits.is_entry.Goals as goal

pub returns-then-kind-entry : goal.returns-then-kind-entry
returns-then-kind-entry c =
    let same = cell_decides (shown c.args.cell) c.args.entry.now.1 in (
      λ h. let cell = same.0 (sym c.same_cell.ensures ∙ h) in λ i. (c.if-kind-entry.true i, cell i),
      λ e. c.same_cell.ensures ∙ same.1 (λ i. (e i).1),
    )
