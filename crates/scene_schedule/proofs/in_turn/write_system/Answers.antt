use Rattle.std.proofs.Common.{◌≡◌, ◌≢◌, List, length, sym, subst, ap, ◌∙◌, arith}
use Rattle.std.specs.Prelude.{All, OnOk, IfErr}
use Rattle.std.specs.List.{Contains}
use Rattle.std.proofs.lemmas.Bool.Decides.{nat_tests}
use Rattle.std.proofs.lemmas.List.{nil_from_length}
use Rattle.scene_kinds.specs.Answers.{refusal_of}
use Rattle.scene_kinds.specs.declared.fault.Fault.TheVariants.{NoMemory}
use Rattle.scene_kinds.specs.KindSet.{KindSet}
use Rattle.scene_table.specs.declared.row_step.RowStep.{RowStep}
use Rattle.scene_table.specs.Tables.{rows_at}
use Rattle.scene_model.specs.Valid.{IsValid}
use Rattle.scene_world.specs.Written.{HasKindsOf}
use Rattle.scene_pass.specs.declared.row_change.RowChange.{RowChange}
use Rattle.scene_schedule.specs.Systems.{changes_of, row_steps}
use Rattle.scene_schedule.specs.TableWrites.{AddsInRange, AreOnce, OverflowsAs, WroteOn, changes_in, sets_of}
use Rattle.scene_schedule.proofs.Outputs.{good_few}
use Rattle.scene_schedule.proofs.ReadyRows.{matching_once, nothing_wrote, rows_ready}
use Rattle.scene_schedule.proofs.TableWrites.{matching_tables}
use Rattle.scene_schedule.proofs.in_turn.write_system.Goals as goal

pub write_by_rows-requires : goal.write_by_rows-requires
write_by_rows-requires g c = good_few (g.S.Stage.seen c.args.stage.now).world.schema c.args.rule.now c.requires.good

pub returns-then-is_empty-clause-written : goal.returns-then-is_empty-clause-written
returns-then-is_empty-clause-written g c =
    let none : length c.in_ok-steps.steps.items ≡ 0 = grind (arith, nat_tests, c.if-is_empty.ensures) in
    nothing_wrote g.S.Stage.note c.args.rule.now (g.S.Stage.seen c.args.stage.now)
    (ap row_steps (sym c.as_slice.ensures) ∙ sym c.in_ok-steps.ensures.steps ∙ nil_from_length c.in_ok-steps.steps.items none)

pub write_tables-requires-clause-once : goal.write_tables-requires-clause-once
write_tables-requires-clause-once g c κs within =
    subst AreOnce (sym (c.as_slice-3.ensures.value ∙ c.in_ok-sets.ensures.sets)) (matching_once c.world.result.now.world c.args.rule.now)

pub write_tables-requires-clause-kinds : goal.write_tables-requires-clause-kinds
write_tables-requires-clause-kinds g c κs within = λ mask listed.
    let w = (g.S.Stage.seen c.args.stage.now).world in
    let rule = c.args.rule.now in
    let steps : c.in_ok-steps.steps.items ≡ row_steps rule.steps = c.in_ok-steps.ensures.steps ∙ ap row_steps c.as_slice.ensures in
    let sets : c.as_slice-3.result.now ≡ sets_of w rule = c.as_slice-3.ensures.value ∙ c.in_ok-sets.ensures.sets ∙ ap (λ w. sets_of w rule) c.world.ensures in
    subst (λ (ss : List RowStep). All (λ row. HasKindsOf w.schema ss row) (rows_at w.tables mask)) (sym (c.as_slice-4.ensures.value ∙ steps))
    (rows_ready w rule (subst IsValid c.world.ensures c.in_ok-sets.ensures.valid) c.requires.good (subst (All AddsInRange) steps c.in_ok-steps.ensures.range) mask
    (subst (λ (ms : List KindSet). Contains ms mask) sets listed))

pub returns-clause-written : goal.returns-clause-written
returns-clause-written g c =
    let w = (g.S.Stage.seen c.args.stage.now).world in
    let rule = c.args.rule.now in
    let steps : c.as_slice-4.result.now ≡ row_steps rule.steps = c.as_slice-4.ensures.value ∙ c.in_ok-steps.ensures.steps ∙ ap row_steps c.as_slice.ensures in
    let sets : c.as_slice-3.result.now ≡ sets_of w rule = c.as_slice-3.ensures.value ∙ c.in_ok-sets.ensures.sets ∙ ap (λ w. sets_of w rule) c.world.ensures in
    let all : changes_in w c.as_slice-4.result.now c.as_slice-3.result.now ≡ changes_of w rule = (λ i. changes_in w (steps i) (sets i)) ∙ matching_tables w rule in
    subst (λ (cs : List RowChange). OnOk c.write_tables.result (WroteOn g.S.Stage.note cs (g.S.Stage.seen c.args.stage.now) (g.S.Stage.seen c.write_tables.new.stage))) all
    c.write_tables.ensures.written

pub returns-clause-refused : goal.returns-clause-refused
returns-clause-refused g c =
    let w = (g.S.Stage.seen c.args.stage.now).world in
    let rule = c.args.rule.now in
    let steps : c.as_slice-4.result.now ≡ row_steps rule.steps = c.as_slice-4.ensures.value ∙ c.in_ok-steps.ensures.steps ∙ ap row_steps c.as_slice.ensures in
    let sets : c.as_slice-3.result.now ≡ sets_of w rule = c.as_slice-3.ensures.value ∙ c.in_ok-sets.ensures.sets ∙ ap (λ w. sets_of w rule) c.world.ensures in
    let all : changes_in w c.as_slice-4.result.now c.as_slice-3.result.now ≡ changes_of w rule = (λ i. changes_in w (steps i) (sets i)) ∙ matching_tables w rule in
    subst (λ (cs : List RowChange). IfErr c.write_tables.result (λ r. r ≢ refusal_of NoMemory → OverflowsAs cs c.args.at r)) all c.write_tables.ensures.refused
