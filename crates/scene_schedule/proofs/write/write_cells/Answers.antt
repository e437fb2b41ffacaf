use Rattle.std.proofs.Common.{ℕ, [], None, refl, ◌∙◌}
use Rattle.scene_kinds.specs.declared.value.Value.{Value}
use Rattle.scene_model.specs.Perform.{Insert}
use Rattle.scene_machine.specs.Queue.{known}
use Rattle.scene_queue.proofs.Folds.{goes_on}
use Rattle.scene_world.proofs.Room.{wider_wider}
use Rattle.scene_world.specs.Stage.{act}
use Rattle.scene_schedule.proofs.write.write_cells.Goals as goal

pub loop-cell-preserved : goal.loop-cell-preserved
loop-cell-preserved g c = (
  goes_on (act g.S.Stage.note) (λ (w : ℕ × Value). known (Insert c.args.entity w.0 w.1)) c.args.cells.now c.loop-cell.cell-index c.cell-item.result _ _ _ [] [] [] None
      c.loop-cell-test.true c.cell-item.is refl c.loop-cell.invariant.0 c.in-Ok.ensures.written refl,
  (
    c.in-Ok.ensures.opening ∙ c.loop-cell.invariant.1.0,
    wider_wider (g.S.Stage.room c.args.stage.now) (g.S.Stage.room c.loop-cell.stage) (g.S.Stage.room c.write_cell.new.stage) c.loop-cell.invariant.1.1 c.in-Ok.ensures.wide,
  ),
)

pub returns-in-Err-clause-wide : goal.returns-in-Err-clause-wide
returns-in-Err-clause-wide g c =
    wider_wider (g.S.Stage.room c.args.stage.now) (g.S.Stage.room c.loop-cell.stage) (g.S.Stage.room c.write_cell.new.stage) c.loop-cell.invariant.1.1 c.in-Err.ensures.wide
