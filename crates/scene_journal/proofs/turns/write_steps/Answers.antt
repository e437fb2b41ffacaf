use Rattle.std.proofs.Common.{◌≡◌, ◌<◌, ◌^◌, ℕ, true, arith, ◌∙◌, ap, sym, subst, pos, to_z, of_z, w64, All, Option, IfSome}
use Rattle.std.proofs.lemmas.Int.{to_z-of_z}
use Rattle.scene_kinds.specs.Map as map
use Rattle.std.proofs.lemmas.List.Elements.{recursion_from_All}
use Rattle.scene_table.specs.RowStep.{is_written}
use Rattle.scene_table.specs.Runs.{AreApart, CanStep, RunState, Stands}
use Rattle.scene_table.specs.Tables.{rows_at}
use Rattle.scene_world.specs.Written.{HasKindsOf}
use Rattle.scene_world.proofs.StepRuns.{can_steps, some_table}
use Rattle.scene_journal.specs.LiveRuns.{AreKept}
use Rattle.scene_journal.specs.Turns.{IsFound}
use Rattle.scene_journal.specs.declared.turns.Found.{Found}
use Rattle.scene_journal.proofs.LiveRuns.{found_leaves, steps_below}
use Rattle.scene_journal.proofs.StandingValues.{standing_holds}
use Rattle.scene_journal.proofs.TurnRecords.{found_own, recorded_own}
use Rattle.scene_journal.proofs.turns.write_steps.Goals as goal

pub run_for-requires-clause-can : goal.run_for-requires-clause-can
run_for-requires-clause-can g c =
    let w = c.args.world.now.world in
    let t = c.in-Some.table.now in
    let lent = some_table (map.get w.tables c.args.mask) t.rows c.in-Some.ensures.rows in
    can_steps w t c.is_sound.ensures.valid (lent.0 ∙ ap (rows_at w.tables) (sym c.in-Some.ensures.mask)) c.args.steps.now lent.1
    (subst (λ m. All (HasKindsOf w.schema c.args.steps.now) (rows_at w.tables m)) (sym c.in-Some.ensures.mask) c.requires.kinds)

pub run_for-requires-clause-holds : goal.run_for-requires-clause-holds
run_for-requires-clause-holds g c = λ run over stands.
    let w = c.args.world.now.world in
    let t = c.in-Some.table.now in
    let lent = some_table (map.get w.tables c.args.mask) t.rows c.in-Some.ensures.rows in
    let same = lent.0 ∙ ap (rows_at w.tables) (sym c.in-Some.ensures.mask) ∙ ap (rows_at w.tables) (sym over) in
    standing_holds w run (pos 0) c.is_sound.ensures.valid (subst (λ rows. Stands rows run (pos 0)) same stands)

pub write_turn-requires-clause-apart : goal.write_turn-requires-clause-apart
write_turn-requires-clause-apart g c κs within =
    let t = c.in-Some.table.now in
    let steps = c.args.steps.now in
    let h = subst (λ (o : Option Found). IfSome o (IsFound t.rows t.mask steps)) c.in-Some-2.is c.in_ok-found.ensures.found in
    subst AreApart (sym h.of.by) c.requires.apart

pub write_turn-requires-clause-found : goal.write_turn-requires-clause-found
write_turn-requires-clause-found g c κs within =
    let w = c.args.world.now.world in
    let t = c.in-Some.table.now in
    let steps = c.args.steps.now in
    let lent = some_table (map.get w.tables c.args.mask) t.rows c.in-Some.ensures.rows in
    let h = subst (λ (o : Option Found). IfSome o (IsFound t.rows t.mask steps)) c.in-Some-2.is c.in_ok-found.ensures.found in
    found_own w t.rows t.mask c.args.mask steps c.in-Some-2.found h lent.0 c.in-Some.ensures.mask

pub returns-clause-fit : goal.returns-clause-fit
returns-clause-fit g c = λ yes.
    let w = c.args.world.now.world in
    let t = c.in-Some.table.now in
    let steps = c.args.steps.now in
    let lent = some_table (map.get w.tables c.args.mask) t.rows c.in-Some.ensures.rows in
    let h = subst (λ (o : Option Found). IfSome o (IsFound t.rows t.mask steps)) c.in-Some-2.is c.in_ok-found.ensures.found in
    recorded_own w t.rows t.mask c.args.mask steps c.in-Some-2.found h lent.0 c.in-Some.ensures.mask c.args.world.now.room c.args.deltas.now.items c.write_turn.new.deltas.items c.write_turn.new.world.world
    c.in_ok-write_turn.ensures.done

pub returns-in_err-reserve-clause-kept : goal.returns-in_err-reserve-clause-kept
returns-in_err-reserve-clause-kept g c = c.reserve.ensures.kept c.args.world.now.world c.requires.kept

pub run_for-requires-clause-kept : goal.run_for-requires-clause-kept
run_for-requires-clause-kept g c =
    let w = c.args.world.now.world in
    let t = c.in-Some.table.now in
    let lent = some_table (map.get w.tables c.args.mask) t.rows c.in-Some.ensures.rows in
    (w, (c.reserve.ensures.kept w c.requires.kept, lent.0 ∙ ap (rows_at w.tables) (sym c.in-Some.ensures.mask)))

pub returns-in_err-found-clause-kept : goal.returns-in_err-found-clause-kept
returns-in_err-found-clause-kept g c = c.reserve.ensures.kept c.args.world.now.world c.requires.kept

pub returns-in_default-2-clause-kept : goal.returns-in_default-2-clause-kept
returns-in_default-2-clause-kept g c = c.reserve.ensures.kept c.args.world.now.world c.requires.kept

pub returns-in_err-run-clause-kept : goal.returns-in_err-run-clause-kept
returns-in_err-run-clause-kept g c = c.reserve.ensures.kept c.args.world.now.world c.requires.kept

pub returns-in_err-write_turn-clause-kept : goal.returns-in_err-write_turn-clause-kept
returns-in_err-write_turn-clause-kept g c = subst (λ v. AreKept v c.reserve.new.self) (sym c.in_err-write_turn.ensures.full.0) (c.reserve.ensures.kept c.args.world.now.world c.requires.kept)

pub note-requires-clause-below : goal.note-requires-clause-below
note-requires-clause-below g c =
    let w = c.args.world.now.world in
    let t = c.in-Some.table.now in
    let steps = c.args.steps.now in
    let h = subst (λ (o : Option Found). IfSome o (IsFound t.rows t.mask steps)) c.in-Some-2.is c.in_ok-found.ensures.found in
    let lent = some_table (map.get w.tables c.args.mask) t.rows c.in-Some.ensures.rows in
    let can = can_steps w t c.is_sound.ensures.valid (lent.0 ∙ ap (rows_at w.tables) (sym c.in-Some.ensures.mask)) steps lent.1
    (subst (λ m. All (HasKindsOf w.schema steps) (rows_at w.tables m)) (sym c.in-Some.ensures.mask) c.requires.kinds) in
    let low : t.mask < 2 ^ 64 = omega (arith, c.in-Some.ensures.mask, c.ranges.mask.fits) in
    let own : c.in_ok-run.run'.value.steps ≡ steps = ap (λ (r : RunState). r.steps) c.in_ok-run.ensures.cases ∙ h.of.by in
    subst (λ xs. (k : ℕ) → is_written xs k ≡ true → k < 64) (sym own) (steps_below t low steps (recursion_from_All (CanStep t) steps can))

pub returns-clause-kept : goal.returns-clause-kept
returns-clause-kept g c =
    let w = c.args.world.now.world in
    let v = c.write_turn.new.world.world in
    let t = c.in-Some.table.now in
    let steps = c.args.steps.now in
    let lent = some_table (map.get w.tables c.args.mask) t.rows c.in-Some.ensures.rows in
    let h = subst (λ (o : Option Found). IfSome o (IsFound t.rows t.mask steps)) c.in-Some-2.is c.in_ok-found.ensures.found in
    let own = found_own w t.rows t.mask c.args.mask steps c.in-Some-2.found h lent.0 c.in-Some.ensures.mask in
    let f = c.in-Some-2.found in
    let same : f.run.value ≡ c.in_ok-run.run'.value = sym c.in_ok-run.ensures.cases in
    let turns : to_z w64 (of_z w64 f.turns) ≡ f.turns = to_z-of_z w64 f.turns h.can.whole in
    c.note.ensures w v (c.reserve.ensures.kept w c.requires.kept)
    (found_leaves w v f c.in_ok-run.run'.value (to_z w64 (of_z w64 f.turns)) c.tick-tick.result c.is_sound.ensures.valid (subst AreApart (sym h.of.by) c.requires.apart) own c.in_ok-write_turn.ensures.world
    same (sym turns) (sym c.tick-tick.ensures.tick))
