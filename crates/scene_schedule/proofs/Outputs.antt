-- What a walk over the systems of a phase made of the opening world is what the systems make in their turn.
use Rattle.std.proofs.Common.{◌≡◌, ◌<◌, ◌≤◌, ℕ, List, true, length, get_or, drop, take, map, ap, sym, ◌∙◌, arith, None, Some, Err}
use Rattle.std.proofs.lemmas.Bool.{and_parts}
use Rattle.std.proofs.lemmas.Bool.Decides.{nat_tests}
use Rattle.std.proofs.lemmas.List.{drop_all, take_all}
use Rattle.std.proofs.lemmas.Option.{slice_get-get_or}
use Rattle.std.proofs.lemmas.Simd.{map-map}
use Rattle.scene_kinds.specs.declared.refusal.Refusal.{Refusal}
use Rattle.scene_kinds.specs.Schema.{Kinds, is_good_name}
use Rattle.scene_model.specs.World.{World}
use Rattle.scene_model.specs.Perform.{perform}
use Rattle.scene_model.specs.Valid.{IsValid}
use Rattle.scene_queue.specs.Queue.{QueueState}
use Rattle.scene_systems.specs.declared.system_rule.SystemRule.{SystemRule}
use Rattle.scene_schedule.specs.declared.output.PhaseOutput.{PhaseOutput}
use Rattle.scene_schedule.specs.AtOnce.{Overflows, output_of, first_overflow, refused_or}
use Rattle.scene_schedule.specs.Output.{IsOutputOf}
use Rattle.scene_schedule.specs.Schedule.{is_good_rule, knows, is_step_count}
use Rattle.scene_schedule.specs.Sound.{IsSoundPhase}
use Rattle.scene_schedule.specs.Systems.{SystemOutput, changes_of, systems_from}
use Rattle.scene_schedule.proofs.SystemsInTurn.{systems_see}
use Rattle.scene_schedule.proofs.QueueWalks.{overflow_found}

-- a good system has at most 16 steps
pub good_few : (schema : Kinds) (rule : SystemRule) → is_good_rule schema rule ≡ true → length rule.steps ≤ 16
good_few schema rule good =
    let named = and_parts (is_good_name rule.name) _ good in
    let needs = and_parts (knows schema rule.filter.need) _ named.1 in
    let misses = and_parts (knows schema rule.filter.without) _ needs.1 in
    let counted = and_parts (is_step_count (length rule.steps)) _ misses.1 in
    below (length rule.steps) counted.0
  where
    below : (n : ℕ) → is_step_count n ≡ true → n ≤ 16
    below n t = grind (arith, nat_tests)

-- and each of a phase is good
pub good_at : (schema : Kinds) (rules : List SystemRule) (at : ℕ) (rule : SystemRule) → IsSoundPhase schema rules → at < length rules → rule ≡ get_or rules at rule → is_good_rule schema rule ≡ true
good_at schema rules at rule sound h e = sound.good at rule (slice_get-get_or rules at rule h ∙ ap Some (sym e))

pub few_steps : (schema : Kinds) (rules : List SystemRule) (at : ℕ) (rule : SystemRule) → IsSoundPhase schema rules → at < length rules → rule ≡ get_or rules at rule → length rule.steps ≤ 16
few_steps schema rules at rule sound h e = good_few schema rule (good_at schema rules at rule sound h e)

-- the walk came to the end
pub phase_made : (output : PhaseOutput) (w : World) (rules : List SystemRule) (at : ℕ) → IsValid w → IsSoundPhase w.schema rules → length rules ≤ at
    → first_overflow w at (drop at rules) ≡ first_overflow w 0 rules
    → output.rows.items ≡ map (changes_of w) (take at rules)
    → map (λ (q : QueueState). q.commands) output.queues.items ≡ map (λ (rule : SystemRule). (output_of w rule).commands) (take at rules)
    → IsOutputOf output w rules
phase_made output w rules at valid sound end over rows queues =
    let law = systems_see w rules valid sound in
    let none : first_overflow w 0 rules ≡ None = sym over ∙ ap (first_overflow w at) (drop_all at rules end) in
    let all = take_all at rules end in
    record {
      outs = map (output_of w) rules;
      after = law.0;
      ran = law.1 ∙ ap (λ o. refused_or o (map (output_of w) rules) law.0) none;
      rows = rows ∙ ap (map (changes_of w)) all ∙ sym (map-map (λ (out : SystemOutput). out.rows) (output_of w) rules);
      queues = queues ∙ ap (map (λ (rule : SystemRule). (output_of w rule).commands)) all ∙ sym (map-map (λ (out : SystemOutput). out.commands) (output_of w) rules);
    }

-- the walk came to a system that overflows
pub phase_refused : (w : World) (rules : List SystemRule) (at : ℕ) (rule : SystemRule) (r : Refusal) → IsValid w → IsSoundPhase w.schema rules → at < length rules → rule ≡ get_or rules at rule
    → first_overflow w at (drop at rules) ≡ first_overflow w 0 rules → Overflows w at rule r → systems_from perform (λ v. v) 0 rules w ≡ Err r
phase_refused w rules at rule r valid sound h e over o =
    let law = systems_see w rules valid sound in
    law.1 ∙ ap (λ x. refused_or x (map (output_of w) rules) law.0) (sym over ∙ overflow_found w rules at rule o.over r h e o.first o.refused)
