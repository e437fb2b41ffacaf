use Rattle.std.proofs.Common.{◌≡◌, ◌∙◌, ◌<◌, ◌+◌, ◌*◌, ◌/◌, ◌%◌, ℕ, length, subst, ap, sym, arith}
use Rattle.std.specs.Prelude.{slice_get}
use Rattle.scene_table.specs.Runs.{AreLongFor, IsTurn, RunState, TurnState, cells_of_turn}
use Rattle.scene_table.proofs.CellsOfTurn.{by_width, cell_of_turn}
use Rattle.scene_table.proofs.TurnCells.{turn_count}
use Rattle.scene_table.proofs.written.Written.cell.Goals as goal

pub nonzero_div-number : goal.nonzero_div-number
nonzero_div-number c =
    let run : c.deref.result.now ≡ c.args.self.now.run = c.deref.ensures ∙ ap (λ (t : TurnState). t.run) c.self.view_is in
    let long = subst (λ (r : RunState). AreLongFor r.entities r.columns) run c.width-width.ensures.long in
    let is = subst IsTurn c.self.view_is c.self.invariant in
    let parts = by_width c.args.number (length c.args.self.now.run.entities) (length c.args.self.now.run.columns) (omega (arith, turn_count c.args.self.now long is)) in
    omega (arith, parts.some, c.width-width.ensures.count, ap (λ (r : RunState). length r.columns) run)

pub nonzero_rem-number : goal.nonzero_rem-number
nonzero_rem-number c =
    let run : c.deref.result.now ≡ c.args.self.now.run = c.deref.ensures ∙ ap (λ (t : TurnState). t.run) c.self.view_is in
    let long = subst (λ (r : RunState). AreLongFor r.entities r.columns) run c.width-width.ensures.long in
    let is = subst IsTurn c.self.view_is c.self.invariant in
    let parts = by_width c.args.number (length c.args.self.now.run.entities) (length c.args.self.now.run.columns) (omega (arith, turn_count c.args.self.now long is)) in
    omega (arith, parts.some, c.width-width.ensures.count, ap (λ (r : RunState). length r.columns) run)

pub cell_at-requires-clause-place : goal.cell_at-requires-clause-place
cell_at-requires-clause-place c =
    let run : c.deref.result.now ≡ c.args.self.now.run = c.deref.ensures ∙ ap (λ (t : TurnState). t.run) c.self.view_is in
    let long = subst (λ (r : RunState). AreLongFor r.entities r.columns) run c.width-width.ensures.long in
    let is = subst IsTurn c.self.view_is c.self.invariant in
    let parts = by_width c.args.number (length c.args.self.now.run.entities) (length c.args.self.now.run.columns) (omega (arith, turn_count c.args.self.now long is)) in
    subst (λ (n : ℕ). c.args.number / n < length c.args.self.now.run.entities) (sym (c.width-width.ensures.count ∙ ap (λ (r : RunState). length r.columns) run)) parts.place

pub cell_at-requires-clause-number : goal.cell_at-requires-clause-number
cell_at-requires-clause-number c =
    let run : c.deref.result.now ≡ c.args.self.now.run = c.deref.ensures ∙ ap (λ (t : TurnState). t.run) c.self.view_is in
    let long = subst (λ (r : RunState). AreLongFor r.entities r.columns) run c.width-width.ensures.long in
    let is = subst IsTurn c.self.view_is c.self.invariant in
    let parts = by_width c.args.number (length c.args.self.now.run.entities) (length c.args.self.now.run.columns) (omega (arith, turn_count c.args.self.now long is)) in
    subst (λ (n : ℕ). c.args.number % n < length c.args.self.now.run.columns) (sym (c.width-width.ensures.count ∙ ap (λ (r : RunState). length r.columns) run)) parts.rest

pub returns : goal.returns
returns c =
    let run : c.deref.result.now ≡ c.args.self.now.run = c.deref.ensures ∙ ap (λ (t : TurnState). t.run) c.self.view_is in
    let long = subst (λ (r : RunState). AreLongFor r.entities r.columns) run c.width-width.ensures.long in
    let is = subst IsTurn c.self.view_is c.self.invariant in
    let width : c.width-width.result ≡ length c.args.self.now.run.columns = c.width-width.ensures.count ∙ ap (λ (r : RunState). length r.columns) run in
    let parts = by_width c.args.number (length c.args.self.now.run.entities) (length c.args.self.now.run.columns) (omega (arith, turn_count c.args.self.now long is)) in
    let place = subst (λ (n : ℕ). c.args.number / n < length c.args.self.now.run.entities) (sym width) parts.place in
    let number = subst (λ (n : ℕ). c.args.number % n < length c.args.self.now.run.columns) (sym width) parts.rest in
    let split = subst (λ (n : ℕ). c.args.number ≡ c.args.number / n * length c.args.self.now.run.columns + c.args.number % n) (sym width) parts.whole in
    ap (slice_get (cells_of_turn c.args.self.now)) split
    ∙ cell_of_turn c.args.self.now _ _ c.cell_at.result.kind c.cell_at.result.entity c.cell_at.result.before c.cell_at.result.after long is place number c.cell_at.ensures.before c.cell_at.ensures.after
