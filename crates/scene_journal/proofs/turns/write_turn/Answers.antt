use Rattle.std.proofs.Common.{◌≡◌, pos, ◌+ℤ◌, ℤ, ap, subst, sym, ◌∙◌, to_z, of_z, w64, ◌++◌}
use Rattle.std.proofs.lemmas.Int.{to_z-of_z}
use Rattle.scene_table.specs.Runs.{Changed, IsTurn, RunState, Same, TurnState}
use Rattle.scene_table.specs.Tables.{rows_at}
use Rattle.scene_table.proofs.CellsOfTurn.{next_fits}
use Rattle.scene_model.specs.RunRaw.{CanPutRun, with_run}
use Rattle.scene_model.proofs.StandingRuns.{standing_runs_can_be_put}
use Rattle.scene_deltas.specs.Segments.{turn_deltas}
use Rattle.scene_journal.proofs.TurnRecords.{found_turn, turn_written}
use Rattle.scene_journal.proofs.turns.write_turn.Goals as goal

pub new-written-requires : goal.new-written-requires
new-written-requires g c =
    let f = c.args.found in
    let w = c.args.world.now.world in
    subst (λ n. IsTurn (record { run = f.run.value; turns = n; before = f.before; tick = c.tick-tick.result })) (sym (to_z-of_z w64 f.turns c.requires.found.can.whole))
    (found_turn (rows_at w.tables f.run.value.mask) f.run.value.mask f.run.value.steps f c.requires.found c.tick-tick.result)

pub put_run-requires-clause-can : goal.put_run-requires-clause-can
put_run-requires-clause-can g c =
    let f = c.args.found in
    let w = c.args.world.now.world in
    let can = c.requires.found.can in
    let turns : to_z w64 (of_z w64 f.turns) ≡ f.turns = to_z-of_z w64 f.turns can.whole in
    let next : to_z w64 (of_z w64 (to_z w64 (of_z w64 f.turns) +ℤ pos 1)) ≡ f.turns +ℤ pos 1 =
    ap (λ n. to_z w64 (of_z w64 (n +ℤ pos 1))) turns ∙ to_z-of_z w64 (f.turns +ℤ pos 1) (next_fits f.turns can.whole can.counted) in
    let run : c.run.result.now ≡ f.run.value = c.run.ensures.run ∙ ap (λ (t : TurnState). t.run) c.new-written.ensures in
    let tick : c.same.result ≡ Same w.tick = c.same.ensures ∙ ap Same c.tick-tick.ensures.tick in
    subst (λ (p : RunState × ℤ × Changed). CanPutRun w p.0 p.1 p.2) (λ i. (sym run i, sym next i, sym tick i))
    (standing_runs_can_be_put w f.run.value f.turns (f.turns +ℤ pos 1) c.is_sound.ensures.valid c.requires.found.stands can.next)

pub returns-clause-done : goal.returns-clause-done
returns-clause-done g c =
    let f = c.args.found in
    let w = c.args.world.now.world in
    let can = c.requires.found.can in
    let turns : to_z w64 (of_z w64 f.turns) ≡ f.turns = to_z-of_z w64 f.turns can.whole in
    let next : to_z w64 (of_z w64 (to_z w64 (of_z w64 f.turns) +ℤ pos 1)) ≡ f.turns +ℤ pos 1 =
    ap (λ n. to_z w64 (of_z w64 (n +ℤ pos 1))) turns ∙ to_z-of_z w64 (f.turns +ℤ pos 1) (next_fits f.turns can.whole can.counted) in
    let run : c.run.result.now ≡ f.run.value = c.run.ensures.run ∙ ap (λ (t : TurnState). t.run) c.new-written.ensures in
    let tick : c.same.result ≡ Same w.tick = c.same.ensures ∙ ap Same c.tick-tick.ensures.tick in
    let made : c.put_run-2.new.self.world ≡ with_run w f.run.value (f.turns +ℤ pos 1) (Same w.tick) = c.put_run-2.ensures.world ∙ (λ i. with_run w (run i) (next i) (tick i)) in
    let written : ◌≡◌ {A = TurnState} c.new-written.result (record { run = f.run.value; turns = f.turns; before = f.before; tick = w.tick }) =
    c.new-written.ensures ∙ (λ i. record { run = f.run.value; turns = turns i; before = f.before; tick = c.tick-tick.ensures.tick i }) in
    turn_written c.args.world.now.room w f c.args.deltas.now.items c.push_written.new.self.items c.put_run-2.new.self.world c.is_sound.ensures.valid c.is_sound.ensures.held c.requires.apart c.requires.found made
    (c.push_written.ensures ∙ (λ i. c.reserve_written.ensures.items i ++ turn_deltas (written i)))

pub returns-clause-world : goal.returns-clause-world
returns-clause-world g c =
    let f = c.args.found in
    let w = c.args.world.now.world in
    let can = c.requires.found.can in
    let turns : to_z w64 (of_z w64 f.turns) ≡ f.turns = to_z-of_z w64 f.turns can.whole in
    let next : to_z w64 (of_z w64 (to_z w64 (of_z w64 f.turns) +ℤ pos 1)) ≡ f.turns +ℤ pos 1 =
    ap (λ n. to_z w64 (of_z w64 (n +ℤ pos 1))) turns ∙ to_z-of_z w64 (f.turns +ℤ pos 1) (next_fits f.turns can.whole can.counted) in
    let run : c.run.result.now ≡ f.run.value = c.run.ensures.run ∙ ap (λ (t : TurnState). t.run) c.new-written.ensures in
    let tick : c.same.result ≡ Same w.tick = c.same.ensures ∙ ap Same c.tick-tick.ensures.tick in
    c.put_run-2.ensures.world ∙ (λ i. with_run w (run i) (next i) (tick i))
