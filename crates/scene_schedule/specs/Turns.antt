-- The turns of workers that share the systems of a phase by their places: a worker runs those whose place leaves its
-- number, divided by the number of workers.
use Rattle.std.specs.Prelude.{◌≡◌, ◌≢◌, ◌≤◌, ◌<◌, ◌%◌, ℕ, List, Option, Some, None, Result, Ok, Err, IfOk, length, slice_get, slice_index_or, slice_set}
use Rattle.scene_kinds.specs.Answers.{refusal_of}
use Rattle.scene_kinds.specs.declared.fault.Fault.TheVariants.{NoMemory}
use Rattle.scene_kinds.specs.declared.refusal.Refusal.{Refusal}
use Rattle.scene_model.specs.World.{World}
use Rattle.scene_queue.specs.Queue.{QueueState}
use Rattle.scene_systems.specs.declared.system_rule.SystemRule.{SystemRule}
use Rattle.scene_pass.specs.declared.row_change.RowChange.{RowChange}
use Rattle.scene_schedule.specs.AtOnce.{IsMadeOf, Overflows}

-- what a system made: its rows and its queue, or why there is nothing
abbrev pub SystemMade : Type 0
SystemMade = Result (List RowChange × QueueState) Refusal

-- it is what the system makes of the opening world alone, or its overflow, or no memory was found
abbrev pub IsMade : World → ℕ → SystemRule → SystemMade → Type 0
IsMade w at rule (Ok made) = IsMadeOf w rule made.0 made.1.commands
IsMade w at rule (Err r) = r ≢ refusal_of NoMemory → Overflows w at rule r

-- what holds once a worker passed a gate before a system
abbrev pub Passed : Type 1
Passed = ℕ → ℕ → Type 0

-- a system's turn with a worker: just where it is the worker's it is run, behind the gate
abbrev pub IsTurn : Passed → (workers worker : ℕ) → World → ℕ → SystemRule → Option SystemMade → Type 0
IsTurn passed workers worker w at rule None = at % workers ≢ worker
IsTurn passed workers worker w at rule (Some made) = (at % workers ≡ worker) × passed worker at × IsMade w at rule made

-- the turns of a worker with the systems from a place on
abbrev pub AreTurns : Passed → (workers worker : ℕ) → World → ℕ → List SystemRule → List (Option SystemMade) → Type 0
AreTurns passed workers worker w at rules turns =
    (i : ℕ) (rule : SystemRule) → at ≤ i → slice_get rules i ≡ Some rule → IsTurn passed workers worker w i rule (slice_index_or turns i None)

-- the same of each worker whose turns could be held
abbrev pub AreLeft : {E : Type 0} → Passed → World → ℕ → List SystemRule → List (Result (List (Option SystemMade)) E) → Type 0
AreLeft {E} passed w at rules left =
    (worker : ℕ) (slot : Result (List (Option SystemMade)) E) → worker < length left → slot ≡ slice_index_or left worker slot
    → IfOk slot (AreTurns passed (length left) worker w at rules)

-- each of so many systems was run behind the gate, by the worker whose number its place leaves
abbrev pub ArePassed : Passed → ℕ → ℕ → Type 0
ArePassed passed workers count = (at : ℕ) → at < count → passed (at % workers) at

-- the turn of a place, where a worker's turns could be held
abbrev pub turn_in : {E : Type 0} → Result (List (Option SystemMade)) E → ℕ → Option SystemMade
turn_in (Ok turns) at = slice_index_or turns at None
turn_in (Err e) at = None

-- the same turns once that one is taken out
abbrev pub emptied : {E : Type 0} → ℕ → Result (List (Option SystemMade)) E → Result (List (Option SystemMade)) E
emptied at (Ok turns) = Ok (slice_set turns at None)
emptied at (Err e) = Err e
