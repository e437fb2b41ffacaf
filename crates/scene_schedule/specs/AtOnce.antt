-- What each system of a phase makes of the opening world by itself, and that this is what it makes in its turn.
use Rattle.std.specs.Prelude.{◌≡◌, ℕ, ◌+◌, List, [], ◌∷◌, ◌++◌, Bool, false, Option, Some, None, Result, Ok, Err, pos, length, map}
use Rattle.std.specs.List.{filter}
use Rattle.std.specs.Ordering.{nat_cmp}
use Rattle.std.specs.FinMap.Entries.{find}
use Rattle.scene_kinds.specs.declared.entity.Entity.{Entity}
use Rattle.scene_kinds.specs.declared.cell.Cell.{Cell}
use Rattle.scene_kinds.specs.declared.refusal.Refusal.{Refusal}
use Rattle.scene_kinds.specs.declared.value.Value.{Value}
use Rattle.scene_kinds.specs.declared.value.Value.TheVariants.{Int}
use Rattle.scene_kinds.specs.Answers.{Outcome}
use Rattle.scene_commands.specs.declared.command.Command.{Command}
use Rattle.scene_commands.specs.declared.command.Command.TheVariants.{Spawn, DespawnAllIfAlive, SetParent, PutResource}
use Rattle.scene_commands.specs.declared.target.Target.TheVariants.{Id, New}
use Rattle.scene_model.specs.World.{World, component_of}
use Rattle.scene_model.specs.Perform.{perform}
use Rattle.scene_model.specs.Valid.{IsValid}
use Rattle.scene_systems.specs.declared.step.Step.{Step}
use Rattle.scene_systems.specs.declared.step.Step.TheVariants.{Row, DespawnAtZero, SpawnChild, CountInto}
use Rattle.scene_systems.specs.declared.system_rule.SystemRule.{SystemRule}
use Rattle.scene_pass.specs.declared.row_change.RowChange.{RowChange}
use Rattle.scene_pass.specs.declared.row_change.Outcome.{Outcome as RowOutcome}
use Rattle.scene_pass.specs.declared.row_change.Outcome.TheVariants.{Changed, Overflow as SumsOver}
use Rattle.scene_pass.specs.Changes.{Values, first_fault}
use Rattle.scene_schedule.specs.Systems.{SystemOutput, changes_of, is_zero_value, overflow_at, systems_from}
use Rattle.scene_schedule.specs.Sound.{IsSoundPhase}

-- ---- a system on the opening world

-- the cells that the steps write to a row, none where a sum doesn't fit
abbrev pub written_of : RowOutcome → Values
written_of (Changed cells) = cells
written_of (SumsOver at) = []

-- a value that was written, or else what the world has
abbrev pub zero_or : Option Value → Bool → Bool
zero_or None rest = rest
zero_or (Some value) rest = is_zero_value value

-- a cell that the world has is the number 0
abbrev pub is_zero_in : Result Cell Refusal → Bool
is_zero_in (Ok cell) = is_zero_value cell.value
is_zero_in (Err r) = false

-- whether a row's number of a kind is 0 once its changes are written to the opening world
abbrev pub is_zero_after : World → ℕ → RowChange → Bool
is_zero_after w kind change = zero_or (find nat_cmp kind (written_of change.outcome)) (is_zero_in (component_of w change.entity kind))

-- the rows whose number is 0 then, and all below them, are despawned
abbrev pub despawns_after : World → ℕ → List RowChange → List Command
despawns_after w kind changes = map (λ c. DespawnAllIfAlive (Id c.entity)) (filter (is_zero_after w kind) changes)

-- each row gets a child, after so many spawns of the queue
abbrev pub children_after : ℕ → List (ℕ × Value) → List RowChange → List Command
children_after spawned cells [] = []
children_after spawned cells (c ∷ cs) = Spawn cells ∷ SetParent (New spawned) (Id c.entity) ∷ children_after (spawned + 1) cells cs

-- the commands of a system's steps for its changes, step by step, after so many spawns of the queue
abbrev pub commands_after : World → ℕ → List Step → List RowChange → List Command
commands_after w spawned [] changes = []
commands_after w spawned (Row s ∷ ss) changes = commands_after w spawned ss changes
commands_after w spawned (DespawnAtZero kind ∷ ss) changes = despawns_after w kind changes ++ commands_after w spawned ss changes
commands_after w spawned (SpawnChild cells ∷ ss) changes =
    children_after spawned cells changes ++ commands_after w (spawned + length changes) ss changes
commands_after w spawned (CountInto name ∷ ss) changes =
    PutResource name (Int (pos (length changes))) ∷ commands_after w spawned ss changes

-- what a system makes of the opening world alone: the changes of its rows, and its queue by these and the world
abbrev pub output_of : World → SystemRule → SystemOutput
output_of w rule = record { rows = changes_of w rule; commands = commands_after w 0 rule.steps (changes_of w rule) }

-- these are the changes and the commands that a system makes of the opening world, and no sum of them overflows
pub record IsMadeOf (w : World) (rule : SystemRule) (changes : List RowChange) (queue : List Command) : Type 0 where
  pub fit : first_fault (changes_of w rule) ≡ None
  pub rows : changes ≡ changes_of w rule
  pub commands : queue ≡ commands_after w 0 rule.steps (changes_of w rule)

-- a system overflows on the opening world, and this is the refusal, by its place in the phase
pub record Overflows (w : World) (system : ℕ) (rule : SystemRule) (r : Refusal) : Type 0 where
  pub over : Entity × ℕ
  pub first : first_fault (changes_of w rule) ≡ Some over
  pub refused : r ≡ overflow_at system over

-- ---- the systems of a phase

-- an overflow of a system by its place in the phase, or else what comes later
abbrev pub overflow_or : ℕ → Option (Entity × ℕ) → Option Refusal → Option Refusal
overflow_or system None rest = rest
overflow_or system (Some f) rest = Some (overflow_at system f)

-- the first system that overflows on the opening world, counted from a place
abbrev pub first_overflow : World → ℕ → List SystemRule → Option Refusal
first_overflow w at [] = None
first_overflow w at (rule ∷ rules) = overflow_or at (first_fault (changes_of w rule)) (first_overflow w (at + 1) rules)

-- a refusal where there is one, or else an answer with a state
abbrev pub refused_or : {A S : Type 0} → Option Refusal → A → S → Outcome A S
refused_or None a s = Ok (a, s)
refused_or (Some r) a s = Err r

-- systems of which none is in another's way make in their turn what each of them makes of the opening world
abbrev pub SystemsSeeTheOpeningWorld : Type 0
SystemsSeeTheOpeningWorld = (w : World) (rules : List SystemRule) → IsValid w → IsSoundPhase w.schema rules
    → (v : World) × (systems_from perform (λ u. u) 0 rules w ≡ refused_or (first_overflow w 0 rules) (map (output_of w) rules) v)
