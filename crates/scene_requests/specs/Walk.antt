-- The walk through a request that stands for a line (docs/SHELL.md, "Requests"): which line it is, or the first fault with
-- its path. Its words are those of the walk through a scene text.
use Rattle.std.specs.Prelude.{ℕ, ◌+◌, List, [], ◌∷◌, ◌++◌, codes, Option, Some, None, Result, Ok, option_and_then, bit_or, map as each}
use Rattle.std.specs.List.{fold}
use Rattle.serde_json.specs.Data.{Data, Members}
use Rattle.serde_json.specs.Find.{as_object, as_str, get_member}
use Rattle.scene_kinds.specs.declared.shape.Shape.{Shape}
use Rattle.scene_kinds.specs.declared.value.Value.{Value}
use Rattle.scene_kinds.specs.KindSet.{KindSet, set_with}
use Rattle.scene_kinds.specs.Schema.{Kinds, number_of, shape_of}
use Rattle.scene_commands.specs.declared.target.Target.{Target}
use Rattle.scene_commands.specs.declared.command.Command.TheVariants.{Spawn, Insert, Despawn, Remove, SetParent, RemoveParent, DespawnAll, DespawnAllIfAlive, PutResource, RemoveResource}
use Rattle.scene_table.specs.declared.row_step.RowStep.TheVariants.{AddVec, AddInt}
use Rattle.scene_systems.specs.declared.step.Step.{Step}
use Rattle.scene_systems.specs.declared.step.Step.TheVariants.{Row, DespawnAtZero, SpawnChild, CountInto}
use Rattle.scene_script.specs.declared.form.LineForm.{LineForm}
use Rattle.scene_script.specs.declared.form.LineForm.TheVariants as form
use Rattle.scene_script.specs.declared.script_line.Line.{Line}
use Rattle.scene_script.specs.declared.script_line.Line.TheVariants as line
use Rattle.scene_script.specs.Cells.{target_in}
use Rattle.scene_script.specs.Script.{limit_of, session_of}
use Rattle.scene_json_forms.specs.declared.fault.FileFault.{FileFault}
use Rattle.scene_json_forms.specs.Reading.{◌>>=◌, field, string_at, list_of, under, object_at, key_of}
use Rattle.scene_json_forms.specs.Walk.{u32_at, int_at, entity_at, shape_at, value_at}
use Rattle.scene_requests.specs.declared.step_name.StepName.{StepName}
use Rattle.scene_requests.specs.declared.step_name.StepName.TheVariants as step
use Rattle.scene_requests.specs.Keys.{step_named, step_keys}

-- ---- numbers, entities and kinds

-- a limit: of slots, of calls or of frames
abbrev pub limit_at : List ℕ → Data → Result ℕ FileFault
limit_at path d = u32_at path d >>= λ n. field path (limit_of n)

-- the number of a session
abbrev pub session_at : List ℕ → Data → Result ℕ FileFault
session_at path d = u32_at path d >>= λ n. field path (session_of n)

-- a target, by the text that it has in a line
abbrev pub target_at : List ℕ → Data → Result Target FileFault
target_at path d = field path (option_and_then target_in (as_str d))

-- a kind, by its name, with its shape
abbrev pub kind_at : Kinds → List ℕ → Data → Result (ℕ × Shape) FileFault
kind_at kinds path d =
    string_at path d
    >>= λ name. field path (number_of kinds name) >>= λ kind. field path (shape_of kinds kind) >>= λ shape. Ok (kind, shape)

-- the set of one kind, by its name
abbrev pub one_kind_at : Kinds → List ℕ → Data → Result KindSet FileFault
one_kind_at kinds path d = kind_at kinds path d >>= λ kind. Ok (set_with 0 kind.0)

-- the kinds that are in any of these sets
abbrev pub union_of : List KindSet → KindSet
union_of sets = fold bit_or 0 sets

-- the set of the kinds of a list of names
abbrev pub kinds_at : Kinds → List ℕ → Data → Result KindSet FileFault
kinds_at kinds path d = list_of (one_kind_at kinds) path d >>= λ sets. Ok (union_of sets)

-- ---- cells

-- the cell of a kind, where its name is a key
abbrev pub cell_where : List ℕ → ℕ → List ℕ × Shape → Option Data → Result (List (ℕ × Value)) FileFault
cell_where path kind k None = Ok []
cell_where path kind k (Some d) = value_at k.1 (under path k.0) d >>= λ value. Ok ((kind, value) ∷ [])

-- the cells of the kinds from a number on
abbrev pub cells_from : List ℕ → Members → ℕ → Kinds → Result (List (ℕ × Value)) FileFault
cells_from path ms kind [] = Ok []
cells_from path ms kind (k ∷ ks) =
    cell_where path kind k (get_member k.0 ms) >>= λ cell. cells_from path ms (kind + 1) ks >>= λ rest. Ok (cell ++ rest)

-- cells: an object of kinds and values, which are read by the numbers of their kinds
abbrev pub cells_at : Kinds → List ℕ → Data → Result (List (ℕ × Value)) FileFault
cells_at kinds path d = object_at (each (λ k. k.0) kinds) path d >>= λ ms. cells_from path ms 0 kinds

-- ---- the steps of systems

-- what adds a vector to another
abbrev pub addvec_of : Kinds → List ℕ → Members → Result Step FileFault
addvec_of kinds path ms =
    key_of (kind_at kinds) path (codes "by") ms >>= λ by. key_of (kind_at kinds) path (codes "to") ms
    >>= λ to. Ok (Row (AddVec to.0 by.0))

-- what adds a number
abbrev pub addint_of : Kinds → List ℕ → Members → Result Step FileFault
addint_of kinds path ms =
    key_of int_at path (codes "by") ms >>= λ by. key_of (kind_at kinds) path (codes "to") ms >>= λ to. Ok (Row (AddInt to.0 by))

-- what despawns where a number is 0
abbrev pub zero_of : Kinds → List ℕ → Members → Result Step FileFault
zero_of kinds path ms = key_of (kind_at kinds) path (codes "kind") ms >>= λ kind. Ok (DespawnAtZero kind.0)

-- what spawns a child
abbrev pub child_of : Kinds → List ℕ → Members → Result Step FileFault
child_of kinds path ms = key_of (cells_at kinds) path (codes "cells") ms >>= λ cells. Ok (SpawnChild cells)

-- what counts rows; whether the name is good is asked where the schedule is made
abbrev pub count_of : List ℕ → Members → Result Step FileFault
count_of path ms = key_of string_at path (codes "name") ms >>= λ name. Ok (CountInto name)

-- a step of a name
abbrev pub step_of : Kinds → StepName → List ℕ → Members → Result Step FileFault
step_of kinds step.AddVec path ms = addvec_of kinds path ms
step_of kinds step.AddInt path ms = addint_of kinds path ms
step_of kinds step.Zero path ms = zero_of kinds path ms
step_of kinds step.Child path ms = child_of kinds path ms
step_of kinds step.Count path ms = count_of path ms

-- the name of a step
abbrev pub step_name_at : List ℕ → Data → Result StepName FileFault
step_name_at path d = field path (option_and_then step_named (as_str d))

-- the name of a step, which is an object
abbrev pub step_name_of : List ℕ → Data → Result StepName FileFault
step_name_of path d = field path (as_object d) >>= key_of step_name_at path (codes "step")

-- a step: `step` comes first, then its unknown keys, and then its keys
abbrev pub step_at : Kinds → List ℕ → Data → Result Step FileFault
step_at kinds path d = step_name_of path d >>= λ name. object_at (step_keys name) path d >>= step_of kinds name path

-- ---- requests, of which the keys are known

-- a kind that is declared; whether its name is good is asked by the line
abbrev pub kind_of : List ℕ → Members → Result Line FileFault
kind_of path ms =
    key_of string_at path (codes "name") ms >>= λ name. key_of shape_at path (codes "shape") ms >>= λ shape. Ok (line.Kind name shape)

-- the slot limit
abbrev pub slots_of : List ℕ → Members → Result Line FileFault
slots_of path ms = key_of limit_at path (codes "limit") ms >>= λ n. Ok (line.Slots n)

-- the greatest number of calls
abbrev pub calls_of : List ℕ → Members → Result Line FileFault
calls_of path ms = key_of limit_at path (codes "limit") ms >>= λ n. Ok (line.Calls n)

-- how many frames can be undone
abbrev pub depth_of : List ℕ → Members → Result Line FileFault
depth_of path ms = key_of limit_at path (codes "limit") ms >>= λ n. Ok (line.Depth n)

-- a scene text, as a string
abbrev pub load_of : List ℕ → Members → Result Line FileFault
load_of path ms = key_of string_at path (codes "text") ms >>= λ text. Ok (line.Load text)

-- an entity that is to come
abbrev pub spawn_of : Kinds → List ℕ → Members → Result Line FileFault
spawn_of kinds path ms = key_of (cells_at kinds) path (codes "cells") ms >>= λ cells. Ok (line.Do (Spawn cells))

-- a component of an entity; the value has the shape of the kind
abbrev pub insert_of : Kinds → List ℕ → Members → Result Line FileFault
insert_of kinds path ms =
    key_of target_at path (codes "entity") ms
    >>= λ target. key_of (kind_at kinds) path (codes "kind") ms
    >>= λ kind. key_of (value_at kind.1) path (codes "value") ms >>= λ value. Ok (line.Do (Insert target kind.0 value))

-- an entity that is to go
abbrev pub despawn_of : List ℕ → Members → Result Line FileFault
despawn_of path ms = key_of target_at path (codes "entity") ms >>= λ target. Ok (line.Do (Despawn target))

-- and all below it
abbrev pub despawnall_of : List ℕ → Members → Result Line FileFault
despawnall_of path ms = key_of target_at path (codes "entity") ms >>= λ target. Ok (line.Do (DespawnAll target))

-- the same of a live one
abbrev pub despawnifalive_of : List ℕ → Members → Result Line FileFault
despawnifalive_of path ms = key_of target_at path (codes "entity") ms >>= λ target. Ok (line.Do (DespawnAllIfAlive target))

-- a component that is to go
abbrev pub remove_of : Kinds → List ℕ → Members → Result Line FileFault
remove_of kinds path ms =
    key_of target_at path (codes "entity") ms >>= λ target. key_of (kind_at kinds) path (codes "kind") ms
    >>= λ kind. Ok (line.Do (Remove target kind.0))

-- the parent of a child
abbrev pub parent_of : List ℕ → Members → Result Line FileFault
parent_of path ms =
    key_of target_at path (codes "child") ms >>= λ child. key_of target_at path (codes "parent") ms
    >>= λ parent. Ok (line.Do (SetParent child parent))

-- a child that is to have no parent
abbrev pub unparent_of : List ℕ → Members → Result Line FileFault
unparent_of path ms = key_of target_at path (codes "child") ms >>= λ child. Ok (line.Do (RemoveParent child))

-- a resource; whether its name is good is asked by the line
abbrev pub put_of : List ℕ → Members → Result Line FileFault
put_of path ms =
    key_of string_at path (codes "name") ms
    >>= λ name. key_of shape_at path (codes "shape") ms
    >>= λ shape. key_of (value_at shape) path (codes "value") ms >>= λ value. Ok (line.Do (PutResource name value))

-- a resource that is to go
abbrev pub drop_of : List ℕ → Members → Result Line FileFault
drop_of path ms = key_of string_at path (codes "name") ms >>= λ name. Ok (line.Do (RemoveResource name))

-- the row of an entity
abbrev pub get_of : List ℕ → Members → Result Line FileFault
get_of path ms = key_of entity_at path (codes "entity") ms >>= λ entity. Ok (line.Get entity)

-- a system
abbrev pub system_of : Kinds → List ℕ → Members → Result Line FileFault
system_of kinds path ms =
    key_of string_at path (codes "name") ms
    >>= λ name. key_of (kinds_at kinds) path (codes "need") ms
    >>= λ need. key_of (list_of (step_at kinds)) path (codes "steps") ms
    >>= λ steps. key_of (kinds_at kinds) path (codes "without") ms
    >>= λ without. Ok (line.System (record { name = name; filter = record { need = need; without = without }; steps = steps }))

-- whose the next calls are
abbrev pub as_of : List ℕ → Members → Result Line FileFault
as_of path ms = key_of session_at path (codes "session") ms >>= λ session. Ok (line.As session)

-- a request, by what it asks for
abbrev pub line_of : Kinds → LineForm → List ℕ → Members → Result Line FileFault
line_of kinds form.Kind path ms = kind_of path ms
line_of kinds form.Slots path ms = slots_of path ms
line_of kinds form.Load path ms = load_of path ms
line_of kinds form.Calls path ms = calls_of path ms
line_of kinds form.Depth path ms = depth_of path ms
line_of kinds form.Spawn path ms = spawn_of kinds path ms
line_of kinds form.Insert path ms = insert_of kinds path ms
line_of kinds form.Despawn path ms = despawn_of path ms
line_of kinds form.Remove path ms = remove_of kinds path ms
line_of kinds form.Parent path ms = parent_of path ms
line_of kinds form.Unparent path ms = unparent_of path ms
line_of kinds form.DespawnAll path ms = despawnall_of path ms
line_of kinds form.DespawnIfAlive path ms = despawnifalive_of path ms
line_of kinds form.Put path ms = put_of path ms
line_of kinds form.Drop path ms = drop_of path ms
line_of kinds form.Begin path ms = Ok line.Begin
line_of kinds form.Queue path ms = Ok line.Queue
line_of kinds form.Commit path ms = Ok line.Commit
line_of kinds form.Undo path ms = Ok line.Undo
line_of kinds form.Redo path ms = Ok line.Redo
line_of kinds form.Show path ms = Ok line.Show
line_of kinds form.Get path ms = get_of path ms
line_of kinds form.Mark path ms = Ok line.Mark
line_of kinds form.Changed path ms = Ok line.Changed
line_of kinds form.Added path ms = Ok line.Added
line_of kinds form.Phase path ms = Ok line.Phase
line_of kinds form.System path ms = system_of kinds path ms
line_of kinds form.Clear path ms = Ok line.Clear
line_of kinds form.Advance path ms = Ok line.Advance
line_of kinds form.Dump path ms = Ok line.Dump
line_of kinds form.DumpAll path ms = Ok line.DumpAll
line_of kinds form.As path ms = as_of path ms
line_of kinds form.History path ms = Ok line.History
