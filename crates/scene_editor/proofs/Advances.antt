-- What each command keeps of worlds, schedules keep.
use Rattle.std.proofs.Common.{ℕ, ◌+◌, List, [], ◌∷◌, Bool, true, false, map, Option, Some, None, Ok}
use Rattle.std.specs.Prelude.{Err, ◌++◌}
use Rattle.scene_kinds.specs.declared.entity.Entity.{Entity}
use Rattle.scene_kinds.specs.Answers.{Outcome}
use Rattle.scene_model.specs.World.{World}
use Rattle.scene_model.specs.Commands.{and_then}
use Rattle.scene_model.specs.Perform.{Command, perform}
use Rattle.scene_machine.specs.Frame.{queue, queues_from}
use Rattle.scene_queue.specs.Requests.{requests}
use Rattle.scene_systems.specs.declared.system_rule.SystemRule.{SystemRule}
use Rattle.scene_pass.specs.Changes.{first_fault}
use Rattle.scene_schedule.specs.Schedule.{ScheduleState, same_kinds}
use Rattle.scene_schedule.specs.Systems.{changes_of, writes_of, queued_by, unless_over, system, systems_from, phase, in_phase, phases_from, if_for, advance_of}
use Rattle.scene_editor.specs.GoesOn.{IsOnTheWay, StaysOnTheWay}
use Rattle.scene_editor.proofs.CommandsOnTheWay.{command_stays}
use Rattle.scene_editor.proofs.Leaves.{Leaves, refused_leaves, given_leaves, then_leaves, queue_leaves, queues_leave}

module _ (P : World → Type 0) where
  over_leaves : {A : Type 0} (at : ℕ) (f : Option (Entity × ℕ)) (o : Outcome A World) → Leaves P o → Leaves P (unless_over at f o)
  over_leaves at None o leaves = leaves
  over_leaves at (Some f) o leaves = λ a v h. refused_leaves P _ a v h

  in_phase_leaves : {A : Type 0} (at : ℕ) (o : Outcome A World) → Leaves P o → Leaves P (in_phase at o)
  in_phase_leaves at (Ok p) leaves = leaves
  in_phase_leaves at (Err r) leaves = λ a v h. refused_leaves P _ a v h

  if_leaves : {A : Type 0} (b : Bool) (o : Outcome A World) → Leaves P o → Leaves P (if_for b o)
  if_leaves true o leaves = leaves
  if_leaves false o leaves = λ a v h. refused_leaves P _ a v h

  module _ (each : (w : World) (c : Command) → P w → Leaves P (perform w c)) where
    system_leaves : (at : ℕ) (rule : SystemRule) (w : World) → P w → Leaves P (system perform (λ v. v) at rule w)
    system_leaves at rule w is =
        over_leaves at (first_fault (changes_of w rule)) _
        (then_leaves P (queue perform at (writes_of (changes_of w rule)) w)
        (λ es t. Ok (record { rows = changes_of w rule; commands = queued_by t rule }, t))
        (queue_leaves P each at (writes_of (changes_of w rule)) w is) (λ es t so. given_leaves P _ t so))

    systems_leave : (at : ℕ) (rules : List SystemRule) (w : World) → P w → Leaves P (systems_from perform (λ v. v) at rules w)
    systems_leave at [] w is = given_leaves P [] w is
    systems_leave at (rule ∷ rules) w is =
        then_leaves P (system perform (λ v. v) at rule w)
        (λ out t. and_then (systems_from perform (λ v. v) (at + 1) rules t) (λ outs u. Ok (out ∷ outs, u))) (system_leaves at rule w is)
        (λ out t so. then_leaves P (systems_from perform (λ v. v) (at + 1) rules t) (λ outs u. Ok (out ∷ outs, u)) (systems_leave (at + 1) rules t so)
        (λ outs u good. given_leaves P (out ∷ outs) u good))

    phase_leaves : (rules : List SystemRule) (w : World) → P w → Leaves P (phase perform (λ v. v) rules w)
    phase_leaves rules w is =
        then_leaves P (systems_from perform (λ v. v) 0 rules w)
        (λ outs t. queues_from perform 0 (map (λ out. requests out.commands) outs) t) (systems_leave 0 rules w is)
        (λ outs t so. queues_leave P each 0 (map (λ out. requests out.commands) outs) t so)

    phases_leave : (at : ℕ) (phases : List (List SystemRule)) (w : World) → P w → Leaves P (phases_from perform (λ v. v) at phases w)
    phases_leave at [] w is = given_leaves P [] w is
    phases_leave at (rules ∷ phases) w is =
        then_leaves P (in_phase at (phase perform (λ v. v) rules w))
        (λ es t. and_then (phases_from perform (λ v. v) (at + 1) phases t) (λ fs u. Ok (es ++ fs, u)))
        (in_phase_leaves at (phase perform (λ v. v) rules w) (phase_leaves rules w is))
        (λ es t so. then_leaves P (phases_from perform (λ v. v) (at + 1) phases t) (λ fs u. Ok (es ++ fs, u)) (phases_leave (at + 1) phases t so)
        (λ fs u good. given_leaves P (es ++ fs) u good))

    advance_leaves : (schedule : ScheduleState) (w : World) → P w → Leaves P (advance_of perform (λ v. v) schedule w)
    advance_leaves schedule w is = if_leaves (same_kinds schedule.schema w.schema) _ (phases_leave 0 schedule.phases w is)

-- a frame of systems
pub advance_stays : (schedule : ScheduleState) → StaysOnTheWay (advance_of perform (λ w. w) schedule)
advance_stays schedule before w v es way is = advance_leaves (IsOnTheWay before) (command_stays before) schedule w way es v is
