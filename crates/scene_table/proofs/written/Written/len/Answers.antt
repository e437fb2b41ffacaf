use Rattle.std.proofs.Common.{◌≡◌, ◌∙◌, ◌*◌, ◌<◌, ◌^◌, ℕ, ap, sym, subst, arith, length}
use Rattle.scene_table.specs.Runs.{AreLongFor, RunState, TurnState, cells_of_turn}
use Rattle.scene_table.proofs.TurnCells.{turn_count}
use Rattle.scene_table.proofs.written.Written.len.Goals as goal

pub overflow_mul-result : goal.overflow_mul-result
overflow_mul-result c =
    let count : length c.entities.result.now * c.width.result ≡ length c.self.inside.run.value.entities * length c.self.inside.run.value.columns =
    λ i. length ((c.entities.ensures ∙ ap (λ (r : RunState). r.entities) c.deref.ensures) i) * (c.width.ensures.count ∙ ap (λ (r : RunState). length r.columns) c.deref-2.ensures) i in
    let below : length c.entities.result.now * c.width.result < 2 ^ 64 = subst (λ (n : ℕ). n < 2 ^ 64) (sym count) c.self.invariant.small in
    omega (arith, below)

pub returns : goal.returns
returns c =
    let turn : TurnState = record { run = c.self.inside.run.value; turns = c.self.inside.turns; before = c.self.inside.before; tick = c.self.inside.tick } in
    let long = subst (λ (r : RunState). AreLongFor r.entities r.columns) c.deref-2.ensures c.width.ensures.long in
    (λ i. length ((c.entities.ensures ∙ ap (λ (r : RunState). r.entities) c.deref.ensures) i) * (c.width.ensures.count ∙ ap (λ (r : RunState). length r.columns) c.deref-2.ensures) i)
    ∙ sym (turn_count turn long c.self.invariant)
    ∙ ap (λ (t : TurnState). length (cells_of_turn t)) c.self.view_is
