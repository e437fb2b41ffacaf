-- Which lists of phases are schedules: the first rule that is broken, and the first two systems that are in each
-- other's way.
use Rattle.std.specs.Prelude.{◌≡◌, ℕ, ◌+◌, List, [], ◌∷◌, Bool, true, false, not, ◌||◌, ◌&&◌, Option, Some, None, is_some, nat_lt, nat_eq, length, if◌then◌else◌}
use Rattle.std.specs.Option.{option_or}
use Rattle.std.specs.List.{list_all, list_any}
use Rattle.std.specs.Str.{bytes_eq}
use Rattle.scene_kinds.specs.declared.fault.Fault.{Fault}
use Rattle.scene_kinds.specs.declared.fault.Fault.TheVariants.{BadRule, Conflict}
use Rattle.scene_kinds.specs.declared.shape.Shape.{Shape}
use Rattle.scene_kinds.specs.declared.shape.Shape.TheVariants as shape
use Rattle.scene_kinds.specs.KindSet.{KindSet, has_kind, kinds_in}
use Rattle.scene_kinds.specs.Schema.{Kinds, is_good_name, shape_of}
use Rattle.scene_kinds.specs.Shape.{same_shape}
use Rattle.scene_model.specs.Commands.{spawn_fault}
use Rattle.scene_table.specs.declared.row_step.RowStep.TheVariants.{AddVec, AddInt}
use Rattle.scene_systems.specs.declared.step.Step.{Step}
use Rattle.scene_systems.specs.declared.step.Step.TheVariants.{Row, DespawnAtZero, SpawnChild, CountInto}
use Rattle.scene_systems.specs.declared.system_rule.SystemRule.{SystemRule}
use Rattle.scene_table.specs.RowStep.{target}

-- ---- rules

-- each kind of a set is in the schema
abbrev pub knows : Kinds → KindSet → Bool
knows schema set = list_all (λ kind. nat_lt kind (length schema)) (kinds_in set)

-- a shape that is there is this one
abbrev pub is_shape : Option Shape → Shape → Bool
is_shape None wanted = false
is_shape (Some shape) wanted = same_shape shape wanted

-- a kind that a step may name: one that every matching row has, of this shape
abbrev pub is_ready : Kinds → KindSet → Shape → ℕ → Bool
is_ready schema need wanted kind = has_kind need kind && is_shape (shape_of schema kind) wanted

-- a step that a system with this `need` may have
abbrev pub is_good_step : Kinds → KindSet → Step → Bool
is_good_step schema need (Row (AddVec to by)) = is_ready schema need shape.Vec3 to && is_ready schema need shape.Vec3 by
is_good_step schema need (Row (AddInt to by)) = is_ready schema need shape.Int to
is_good_step schema need (DespawnAtZero kind) = is_ready schema need shape.Int kind
is_good_step schema need (SpawnChild cells) = not (is_some (spawn_fault schema cells))
is_good_step schema need (CountInto name) = is_good_name name

-- a step that writes
abbrev pub is_row : Step → Bool
is_row (Row s) = true
is_row s = false

-- no step that writes stands behind one that queues
abbrev pub writes_first : List Step → Bool
writes_first [] = true
writes_first (s ∷ ss) = if is_row s then writes_first ss else not (list_any is_row ss)

-- 1 to 16 steps
abbrev pub is_step_count : ℕ → Bool
is_step_count count = not (nat_eq count 0) && nat_lt count 17

-- a system that a schedule over these kinds may have
abbrev pub is_good_rule : Kinds → SystemRule → Bool
is_good_rule schema rule =
    is_good_name rule.name
    && (knows schema rule.filter.need
    && (knows schema rule.filter.without
    && (is_step_count (length rule.steps)
    && (list_all (is_good_step schema rule.filter.need) rule.steps && writes_first rule.steps))))

-- the first bad system of a phase, counted from a place; a 65th system is one too many
abbrev pub bad_in_phase : Kinds → ℕ → ℕ → List SystemRule → Option Fault
bad_in_phase schema phase at [] = None
bad_in_phase schema phase at (rule ∷ rules) =
    if nat_lt at 64 && is_good_rule schema rule then bad_in_phase schema phase (at + 1) rules else Some (BadRule phase at)

-- the first bad system, phase by phase, counted from a place; a 65th phase is one too many
abbrev pub bad_from : Kinds → ℕ → List (List SystemRule) → Option Fault
bad_from schema at [] = None
bad_from schema at (phase ∷ phases) =
    if nat_lt at 64 then option_or (bad_in_phase schema at 0 phase) (bad_from schema (at + 1) phases) else Some (BadRule 64 0)

-- ---- conflicts

-- a step writes a kind
abbrev pub step_writes : ℕ → Step → Bool
step_writes kind (Row s) = nat_eq (target s) kind
step_writes kind s = false

-- a step reads a kind, or writes it
abbrev pub step_touches : ℕ → Step → Bool
step_touches kind (Row (AddVec to by)) = nat_eq to kind || nat_eq by kind
step_touches kind (Row (AddInt to by)) = nat_eq to kind
step_touches kind (DespawnAtZero of) = nat_eq of kind
step_touches kind s = false

-- a system writes a kind in one of its steps
abbrev pub writes : SystemRule → ℕ → Bool
writes rule kind = list_any (step_writes kind) rule.steps

-- a system reads or writes a kind in one of its steps
abbrev pub touches : SystemRule → ℕ → Bool
touches rule kind = list_any (step_touches kind) rule.steps

-- a step writes a kind that a system touches
abbrev pub step_disturbs : SystemRule → Step → Bool
step_disturbs other (Row s) = touches other (target s)
step_disturbs other s = false

-- a system writes a kind that another one touches
abbrev pub disturbs : SystemRule → SystemRule → Bool
disturbs rule other = list_any (step_disturbs other) rule.steps

-- one of two systems writes what the other reads or writes, whatever their filters
abbrev pub clash : SystemRule → SystemRule → Bool
clash a b = disturbs a b || disturbs b a

-- the first of the later systems of a phase that clashes with one of its systems
abbrev pub clash_among : ℕ → ℕ → ℕ → SystemRule → List SystemRule → Option Fault
clash_among phase first second rule [] = None
clash_among phase first second rule (other ∷ others) =
    if clash rule other then Some (Conflict phase first second) else clash_among phase first (second + 1) rule others

-- the first two systems of a phase that clash: by the first of them, then by the second
abbrev pub clash_in_phase : ℕ → ℕ → List SystemRule → Option Fault
clash_in_phase phase at [] = None
clash_in_phase phase at (rule ∷ rules) = option_or (clash_among phase at (at + 1) rule rules) (clash_in_phase phase (at + 1) rules)

-- the same phase by phase
abbrev pub clash_from : ℕ → List (List SystemRule) → Option Fault
clash_from at [] = None
clash_from at (phase ∷ phases) = option_or (clash_in_phase at 0 phase) (clash_from (at + 1) phases)

-- ---- schedules

-- the first rule that is broken, or else the first conflict
abbrev pub schedule_fault : Kinds → List (List SystemRule) → Option Fault
schedule_fault schema phases = option_or (bad_from schema 0 phases) (clash_from 0 phases)

-- the kinds for which a schedule was made, and its phases
pub record ScheduleState : Type 0 where
  pub schema : Kinds
  pub phases : List (List SystemRule)

-- it breaks no rule and has no conflict
abbrev pub IsSchedule : ScheduleState → Type 0
IsSchedule s = schedule_fault s.schema s.phases ≡ None

-- two schemas have the same kinds under the same numbers
abbrev pub same_kinds : Kinds → Kinds → Bool
same_kinds [] [] = true
same_kinds (k ∷ ks) (l ∷ ls) = bytes_eq k.0 l.0 && (same_shape k.1 l.1 && same_kinds ks ls)
same_kinds ks ls = false
