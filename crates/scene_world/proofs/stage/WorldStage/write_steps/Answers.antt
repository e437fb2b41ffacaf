use Rattle.std.proofs.Common.{◌≡◌, ◌∙◌, ap, sym, subst, pos, All, Option, IfSome}
use Rattle.std.specs.declared.convert.Infallible.{Infallible}
use Rattle.scene_kinds.specs.Map as map
use Rattle.scene_table.specs.Runs.{AreColumnsFor, AreLongFor, HoldsAt, RunState, Same, Stands}
use Rattle.scene_table.specs.Tables.{rows_at}
use Rattle.scene_model.specs.RunRaw.{CanPutRun, with_run}
use Rattle.scene_model.proofs.StandingRuns.{standing_runs_can_be_put}
use Rattle.scene_world.specs.Written.{HasKindsOf}
use Rattle.scene_world.proofs.StepRuns.{AreWritten, can_steps, run_written_steps, some_table}
use Rattle.scene_world.proofs.stage.WorldStage.write_steps.Goals as goal

pub new-requires-clause-can : goal.new-requires-clause-can
new-requires-clause-can g c =
    let w = c.args.self.now.world in
    let t = c.in-Some.table.now in
    let lent = some_table (map.get w.tables c.args.mask) t.rows c.in-Some.ensures.rows in
    can_steps w t c.tick-tick.ensures.valid (lent.0 ∙ ap (rows_at w.tables) (sym c.in-Some.ensures.mask)) c.args.steps.now lent.1
    (subst (λ m. All (HasKindsOf w.schema c.args.steps.now) (rows_at w.tables m)) (sym c.in-Some.ensures.mask) c.requires.kinds)

pub put_run-requires-clause-can : goal.put_run-requires-clause-can
put_run-requires-clause-can g c =
    let w = c.args.self.now.world in
    let t = c.in-Some.table.now in
    let run = c.in-Some-2.run' in
    let is = subst (λ (o : Option RunState). IfSome o (λ r. (r.mask ≡ t.mask) × (r.steps ≡ c.args.steps.now))) c.in-Some-2.is c.in_ok-run.ensures.is in
    let stands = subst (λ (o : Option RunState). IfSome o (λ r. Stands t.rows r (pos 0))) c.in-Some-2.is c.in_ok-run.ensures.stands in
    let fits = subst (λ (o : Option RunState). IfSome o (λ r. HoldsAt r (pos 1))) c.in-Some-2.is c.in_ok-run.ensures.fits in
    let lent = some_table (map.get w.tables c.args.mask) t.rows c.in-Some.ensures.rows in
    let own = lent.0 ∙ ap (rows_at w.tables) (sym (is.0 ∙ c.in-Some.ensures.mask)) in
    subst (CanPutRun w run (pos 1)) (sym (c.same.ensures ∙ ap Same c.tick-tick.ensures.tick))
    (standing_runs_can_be_put w run (pos 0) (pos 1) c.tick-tick.ensures.valid (subst (λ rows. Stands rows run (pos 0)) own stands) fits)

pub returns-in-Some-2-clause-fit : goal.returns-in-Some-2-clause-fit
returns-in-Some-2-clause-fit g c = λ yes.
    let w = c.args.self.now.world in
    let t = c.in-Some.table.now in
    let run = c.in-Some-2.run' in
    let is = subst (λ (o : Option RunState). IfSome o (λ r. (r.mask ≡ t.mask) × (r.steps ≡ c.args.steps.now))) c.in-Some-2.is c.in_ok-run.ensures.is in
    let stands = subst (λ (o : Option RunState). IfSome o (λ r. Stands t.rows r (pos 0))) c.in-Some-2.is c.in_ok-run.ensures.stands in
    let fits = subst (λ (o : Option RunState). IfSome o (λ r. HoldsAt r (pos 1))) c.in-Some-2.is c.in_ok-run.ensures.fits in
    let lent = some_table (map.get w.tables c.args.mask) t.rows c.in-Some.ensures.rows in
    let are = subst (λ (r : RunState). AreColumnsFor r.steps r.columns) c.run.view_is c.run.invariant.are in
    let long = subst (λ (r : RunState). AreLongFor r.entities r.columns) c.run.view_is c.run.invariant.long in
    subst (AreWritten Infallible w c.args.mask c.args.steps.now)
    (sym (c.put_run-in-Some-2.ensures.world ∙ ap (with_run w run (pos 1)) (c.same.ensures ∙ ap Same c.tick-tick.ensures.tick)))
    (run_written_steps Infallible w run c.args.mask c.args.steps.now c.tick-tick.ensures.valid (is.0 ∙ c.in-Some.ensures.mask) is.1 c.requires.apart are long
    (subst (λ rows. Stands rows run (pos 0)) lent.0 stands) fits)
