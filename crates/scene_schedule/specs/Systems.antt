-- What systems, phases and schedules do: to a world, or to whatever else commands can be performed on.
use Rattle.std.specs.Prelude.{ℕ, ◌+◌, List, [], ◌∷◌, ◌++◌, Bool, true, false, nat_eq, Option, Some, None, Ok, Err, pos, length, map}
use Rattle.std.specs.List.{filter, flat_map}
use Rattle.scene_kinds.specs.declared.entity.Entity.{Entity}
use Rattle.scene_kinds.specs.declared.cell.Cell.{Cell}
use Rattle.scene_kinds.specs.declared.cells.Row.{Row as TableRow}
use Rattle.scene_kinds.specs.declared.fault.Fault.TheVariants.{Overflow, OtherSchema}
use Rattle.scene_kinds.specs.declared.refusal.Refusal.{Refusal}
use Rattle.scene_kinds.specs.declared.refusal.Place.{Place}
use Rattle.scene_kinds.specs.declared.value.Value.{Value}
use Rattle.scene_kinds.specs.declared.value.Value.TheVariants.{Int}
use Rattle.scene_kinds.specs.Answers.{Outcome, refuse}
use Rattle.scene_kinds.specs.Cells.{cell_of}
use Rattle.scene_commands.specs.declared.command.Command.{Command}
use Rattle.scene_commands.specs.declared.command.Command.TheVariants.{Spawn, DespawnAllIfAlive, SetParent, PutResource}
use Rattle.scene_commands.specs.declared.target.Target.TheVariants.{Id, New}
use Rattle.scene_model.specs.World.{World}
use Rattle.scene_model.specs.Commands.{and_then}
use Rattle.scene_model.specs.Perform.{Act, Insert}
use Rattle.scene_machine.specs.Queue.{Request, known}
use Rattle.scene_machine.specs.Frame.{queue, queues_from}
use Rattle.scene_queue.specs.Requests.{requests}
use Rattle.scene_table.specs.declared.row_step.RowStep.{RowStep}
use Rattle.scene_systems.specs.declared.step.Step.{Step}
use Rattle.scene_systems.specs.declared.step.Step.TheVariants.{Row, DespawnAtZero, SpawnChild, CountInto}
use Rattle.scene_systems.specs.declared.system_rule.SystemRule.{SystemRule}
use Rattle.scene_pass.specs.declared.row_change.RowChange.{RowChange}
use Rattle.scene_pass.specs.declared.row_change.Outcome.{Outcome as RowOutcome}
use Rattle.scene_pass.specs.declared.row_change.Outcome.TheVariants.{Changed, Overflow as SumsOver}
use Rattle.scene_pass.specs.Pass.{matching_rows}
use Rattle.scene_pass.specs.Changes.{changes, first_fault}
use Rattle.scene_schedule.specs.Schedule.{ScheduleState, same_kinds}

-- ---- what a system writes

-- the steps that write, which stand before those that queue
abbrev pub row_steps : List Step → List RowStep
row_steps [] = []
row_steps (Row s ∷ ss) = s ∷ row_steps ss
row_steps (s ∷ ss) = row_steps ss

-- what a system makes of its rows
abbrev pub changes_of : World → SystemRule → List RowChange
changes_of w rule = changes w rule.filter (row_steps rule.steps)

-- a written cell is an insert of a kind that is there: the value is written, the cell is changed at the world's tick,
-- and the tick at which it was added stays
abbrev pub writes_of_cells : Entity → List (ℕ × Value) → List Request
writes_of_cells e cells = map (λ c. known (Insert e c.0 c.1)) cells

-- the cells of what a row came to: none where a sum doesn't fit
abbrev pub writes_of_outcome : Entity → RowOutcome → List Request
writes_of_outcome e (Changed cells) = writes_of_cells e cells
writes_of_outcome e (SumsOver at) = []

-- the cells that a row's change writes
abbrev pub writes_of_row : RowChange → List Request
writes_of_row change = writes_of_outcome change.entity change.outcome

-- the cells of all rows, row by row, and in a row by kind
abbrev pub writes_of : List RowChange → List Request
writes_of changes = flat_map writes_of_row changes

-- ---- what a system queues

-- whether a value is the number 0
abbrev pub is_zero_value : Value → Bool
is_zero_value (Int (pos n)) = nat_eq n 0
is_zero_value v = false

-- whether a row's number of a kind is 0
abbrev pub is_zero : Option Cell → Bool
is_zero None = false
is_zero (Some cell) = is_zero_value cell.value

-- the rows whose number is 0, and all below them, are despawned
abbrev pub despawns : ℕ → List TableRow → List Command
despawns kind rows = map (λ row. DespawnAllIfAlive (Id row.entity)) (filter (λ row. is_zero (cell_of row.cells kind)) rows)

-- each row gets a child, after so many spawns of the queue
abbrev pub children_of_rows : ℕ → List (ℕ × Value) → List TableRow → List Command
children_of_rows spawned cells [] = []
children_of_rows spawned cells (row ∷ rows) =
    Spawn cells ∷ SetParent (New spawned) (Id row.entity) ∷ children_of_rows (spawned + 1) cells rows

-- the commands of a system's steps for its rows, step by step, after so many spawns of the queue
abbrev pub commands_from : ℕ → List Step → List TableRow → List Command
commands_from spawned [] rows = []
commands_from spawned (Row s ∷ ss) rows = commands_from spawned ss rows
commands_from spawned (DespawnAtZero kind ∷ ss) rows = despawns kind rows ++ commands_from spawned ss rows
commands_from spawned (SpawnChild cells ∷ ss) rows = children_of_rows spawned cells rows ++ commands_from (spawned + length rows) ss rows
commands_from spawned (CountInto name ∷ ss) rows = PutResource name (Int (pos (length rows))) ∷ commands_from spawned ss rows

-- the queue of a system on a world to which it has written
abbrev pub queued_by : World → SystemRule → List Command
queued_by w rule = commands_from 0 rule.steps (matching_rows w rule.filter)

-- ---- systems one after another

-- what a system made: the changes of its rows, and its queue
pub record SystemOutput : Type 0 where
  pub rows : List RowChange
  pub commands : List Command

-- an overflow of a system, by its place in the phase
abbrev pub overflow_at : ℕ → Entity × ℕ → Refusal
overflow_at system f = record { fault = Overflow f.0; place = Some (record { phase = 0; queue = system; command = f.1 }) }

-- an overflow of a row refuses; else the rest follows
abbrev pub unless_over : {A S : Type 0} → ℕ → Option (Entity × ℕ) → Outcome A S → Outcome A S
unless_over system None rest = rest
unless_over system (Some f) rest = Err (overflow_at system f)

module _ {S : Type 0} (act : Act S) (seen : S → World) where
  -- a system in its turn: it writes what it makes of its rows, and its queue is made of what it wrote
  abbrev pub system : ℕ → SystemRule → S → Outcome SystemOutput S
  system at rule s =
      unless_over at (first_fault (changes_of (seen s) rule))
      (and_then (queue act at (writes_of (changes_of (seen s) rule)) s)
      (λ es t. Ok (record { rows = changes_of (seen s) rule; commands = queued_by (seen t) rule }, t)))

  -- the systems one after another, counted from a place: each sees what those before wrote
  abbrev pub systems_from : ℕ → List SystemRule → S → Outcome (List SystemOutput) S
  systems_from at [] s = Ok ([], s)
  systems_from at (rule ∷ rules) s =
      and_then (system at rule s) (λ out t. and_then (systems_from (at + 1) rules t) (λ outs u. Ok (out ∷ outs, u)))

  -- their queues then, in their order
  abbrev pub phase : List SystemRule → S → Outcome (List Entity) S
  phase rules s = and_then (systems_from 0 rules s) (λ outs t. queues_from act 0 (map (λ out. requests out.commands) outs) t)

-- a refusal of a phase has its number
abbrev pub place_in : ℕ → Option Place → Option Place
place_in phase None = None
place_in phase (Some place) = Some (record place { phase = phase })

-- a phase's outcome with its number in the refusal
abbrev pub in_phase : {A S : Type 0} → ℕ → Outcome A S → Outcome A S
in_phase phase (Ok p) = Ok p
in_phase phase (Err r) = Err (record r { place = place_in phase r.place })

module _ {S : Type 0} (act : Act S) (seen : S → World) where
  -- the phases one after another, counted from a place, and the entities that all of them spawned
  abbrev pub phases_from : ℕ → List (List SystemRule) → S → Outcome (List Entity) S
  phases_from at [] s = Ok ([], s)
  phases_from at (rules ∷ phases) s =
      and_then (in_phase at (phase act seen rules s)) (λ es t. and_then (phases_from (at + 1) phases t) (λ fs u. Ok (es ++ fs, u)))

-- a schedule for a world with other kinds is refused
abbrev pub if_for : {A S : Type 0} → Bool → Outcome A S → Outcome A S
if_for true o = o
if_for false o = refuse OtherSchema

-- a schedule: its phases, on a world with its kinds
abbrev pub advance_of : {S : Type 0} → Act S → (S → World) → ScheduleState → S → Outcome (List Entity) S
advance_of act seen schedule s = if_for (same_kinds schedule.schema (seen s).schema) (phases_from act seen 0 schedule.phases s)
