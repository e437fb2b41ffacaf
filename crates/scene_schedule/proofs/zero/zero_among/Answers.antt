use Rattle.std.proofs.Common.{ℕ, ap, sym, ◌∙◌, arith}
use Rattle.scene_kinds.specs.declared.value.Value.{Value}
use Rattle.scene_schedule.proofs.QueueWalks.{zero_later}
use Rattle.scene_schedule.proofs.zero.zero_among.Goals as goal

pub cells-preserved : goal.cells-preserved
cells-preserved c =
    sym (zero_later c.args.kind c.args.cells.now c.cells.at c.index-cells-at.result (omega (arith, c.cells-test.true)) c.index-cells-at.is
    (λ e. c.if-cells-at.false (ap (λ (x : ℕ × Value). x.0) (sym c.index-cells-at.is) ∙ e))) ∙ c.cells.invariant
