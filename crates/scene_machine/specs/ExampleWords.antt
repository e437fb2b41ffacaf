-- Short words in which the worked examples are written: entities, cells, rows, worlds, commands and calls.
use Rattle.std.specs.Prelude.{ℕ, List, [], ◌∷◌, Ok, Err, option_map, pos, slice_get, T}
use Rattle.std.specs.Ordering.{nat_cmp}
use Rattle.std.specs.FinMap.Entries.{is_sorted}
use Rattle.scene_kinds.specs.declared.entity.Entity.{Entity}
use Rattle.scene_kinds.specs.declared.cell.Cell.{Cell}
use Rattle.scene_kinds.specs.declared.cells.Row.{Row}
use Rattle.scene_kinds.specs.declared.value.Value.{Value}
use Rattle.scene_kinds.specs.declared.value.Value.TheVariants as value
use Rattle.scene_kinds.specs.declared.shape.Shape.TheVariants as shape
use Rattle.scene_kinds.specs.declared.fault.Fault.{Fault}
use Rattle.scene_kinds.specs.Answers.{refusal_of}
use Rattle.scene_kinds.specs.Map as map
use Rattle.scene_kinds.specs.Schema.{Kinds}
use Rattle.scene_model.specs.World.{World, new_world}
use Rattle.scene_model.specs.Perform.{Command, Spawn}
use Rattle.scene_machine.specs.Machine.{Machine, opening}
use Rattle.scene_machine.specs.Queue.{Request, known, refused_at}
use Rattle.scene_machine.specs.Frame.{Call, Submit, Reply, after_calls}

-- an entity by its index and its generation
abbrev pub ent : ℕ → ℕ → Entity
ent i g = record { index = i; generation = g }

-- a cell by its value, its added tick and its changed tick
abbrev pub cell : Value → ℕ → ℕ → Cell
cell v a c = record { value = v; added = a; changed = c }

-- a row by its entity and its cells
abbrev pub row : Entity → List (ℕ × Cell) → Row
row e cells = record { entity = e; cells = cells }

-- the value of a whole number
abbrev pub int : ℕ → Value
int n = value.Int (pos n)

-- kind 0 is the Int A, kind 1 the Tag T
abbrev pub schema : Kinds
schema = ((65 ∷ []), shape.Int) ∷ ((84 ∷ []), shape.Tag) ∷ []

-- a world of that schema with at most 100 slots, with its tables, without links and resources
abbrev pub world : ℕ → List ℕ → List ℕ → (ts : List (ℕ × (Row × List Row))) → T (is_sorted nat_cmp ts) → World
world tick generations free ts rising = record {
  schema = schema;
  slots = record { limit = 100; generations = generations; free = free };
  tick = tick;
  tables = map.of ts rising;
  children = map.empty;
  resources = map.empty;
}

-- the machine before the first call, over a world with no entities
abbrev pub fresh : Machine World
fresh = opening (new_world schema 100)

-- the row of an Int, with both ticks
abbrev pub int_row : Entity → ℕ → ℕ → ℕ → Row
int_row e n a c = row e ((0, cell (int n) a c) ∷ [])

-- the row of a tag, with its tick
abbrev pub tag_row : Entity → ℕ → Row
tag_row e a = row e ((1, cell value.Tag a a) ∷ [])

-- a spawn of one Int
abbrev pub spawn_int : ℕ → Request
spawn_int n = known (Spawn ((0, int n) ∷ []))

-- a spawn of one Tag
abbrev pub spawn_tag : Request
spawn_tag = known (Spawn ((1, value.Tag) ∷ []))

-- a command on the k-th entity that its queue has spawned
abbrev pub local : ℕ → (Entity → Command) → Request
local k command spawned = option_map command (slice_get spawned k)

-- a frame of one queue
abbrev pub frame_of : List Request → Call
frame_of requests = Submit (requests ∷ [])

-- a frame of one command
abbrev pub one : Request → Call
one r = frame_of (r ∷ [])

-- a frame of one command that names no entity of its queue
abbrev pub only : Command → Call
only c = one (known c)

-- a frame without commands
abbrev pub empty_frame : Call
empty_frame = Submit []

-- the world that calls lead to
abbrev pub ends : List Call → World
ends calls = (after_calls fresh calls).now

-- what a frame answers that spawned these entities
abbrev pub made : List Entity → Reply
made es = Ok es

-- what a frame that spawns nothing answers, and an undo too
abbrev pub done : Reply
done = Ok []

-- a refusal without a place
abbrev pub refused : Fault → Reply
refused f = Err (refusal_of f)

-- the refusal of the first command of the first queue
abbrev pub refused_first : Fault → Reply
refused_first f = Err (refused_at 0 0 f)
