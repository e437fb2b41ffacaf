use Rattle.std.proofs.Common.{◌∙◌, of_z, to_z, w64}
use Rattle.scene_deltas.proofs.TurnPut.{lent_back, turns_lent}
use Rattle.scene_deltas.proofs.turn.take_turn_back.Goals as goal

pub put_run-requires-clause-can : goal.put_run-requires-clause-can
put_run-requires-clause-can c =
    (lent_back c.args.world.now.world c.args.written.now (c.has_rows_of.ensures c.if-has_rows_of.true) c.run.result.now (to_z w64 (of_z w64 c.turns.result)) c.ticks_before.result.now
    c.run.ensures.run (turns_lent c.turns.result c.args.written.now.turns (record { sfits = c.turns.type_inv }) c.turns.ensures) c.ticks_before.ensures c.requires).0

pub returns-then-has_rows_of-clause-world : goal.returns-then-has_rows_of-clause-world
returns-then-has_rows_of-clause-world c =
    c.put_run.ensures.world
    ∙ (lent_back c.args.world.now.world c.args.written.now (c.has_rows_of.ensures c.if-has_rows_of.true) c.run.result.now (to_z w64 (of_z w64 c.turns.result)) c.ticks_before.result.now
    c.run.ensures.run (turns_lent c.turns.result c.args.written.now.turns (record { sfits = c.turns.type_inv }) c.turns.ensures) c.ticks_before.ensures c.requires).1
