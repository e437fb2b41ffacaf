use Rattle.std.proofs.Common.{◌∙◌, ap}
use Rattle.scene_table.specs.Runs.{Same}
use Rattle.scene_deltas.proofs.TurnPut.{lent_on, next_lent}
use Rattle.scene_deltas.proofs.turn.make_turn_again.Goals as goal

pub put_run-requires-clause-can : goal.put_run-requires-clause-can
put_run-requires-clause-can c =
    let over = c.has_rows_of.ensures c.if-has_rows_of.true in
    let next = next_lent c.turns.result c.args.written.now.turns (record { sfits = c.turns.type_inv }) c.turns.ensures over.is.counted in
    (lent_on c.args.world.now.world c.args.written.now over c.run.result.now _ c.same-changed.result c.run.ensures.run next (c.same-changed.ensures ∙ ap Same c.tick.ensures) c.requires).0

pub returns-then-has_rows_of-clause-world : goal.returns-then-has_rows_of-clause-world
returns-then-has_rows_of-clause-world c =
    let over = c.has_rows_of.ensures c.if-has_rows_of.true in
    let next = next_lent c.turns.result c.args.written.now.turns (record { sfits = c.turns.type_inv }) c.turns.ensures over.is.counted in
    c.put_run.ensures.world
    ∙ (lent_on c.args.world.now.world c.args.written.now over c.run.result.now _ c.same-changed.result c.run.ensures.run next (c.same-changed.ensures ∙ ap Same c.tick.ensures) c.requires).1
