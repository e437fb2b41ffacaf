-- What lists of C name: components, whose texts stand in bytes beside them, and commands that write them.
use Rattle.std.specs.Prelude.{◌≡◌, ◌⊎◌, ℕ, ◌+◌, ℤ, pos, negsuc, List, [], ◌∷◌, Option, Some, None, if◌then◌else◌, drop, length, nat_eq, nat_le, nat_lt, slice_get, take}
use Rattle.std.specs.Option.{option_and_then, option_map}
use Rattle.scene_kinds.specs.declared.entity.Entity.{Entity}
use Rattle.scene_kinds.specs.declared.shape.Shape.{Shape}
use Rattle.scene_kinds.specs.declared.shape.Shape.TheVariants as shape
use Rattle.scene_kinds.specs.declared.value.Value.{Value}
use Rattle.scene_commands.specs.declared.command.Command.{Command}
use Rattle.scene_commands.specs.declared.command.Command.TheVariants.{Insert, Spawn}
use Rattle.scene_commands.specs.declared.target.Target.{Target}
use Rattle.scene_commands.specs.declared.target.Target.TheVariants.{New, Id}
use Rattle.scene_queue.specs.Queue.{spawns, usual_limit}
use Rattle.scene_script.specs.declared.script_line.Line.{Line}
use Rattle.scene_script.specs.declared.script_line.Line.TheVariants.{Do}
use Rattle.scene_interpreter.specs.Answer.{said_of}
use Rattle.scene_interpreter.specs.Changes.{frame_is_open}
use Rattle.scene_interpreter.specs.Interpreter.{Interpreter, Setting, Playing, interpreter_of}
use Rattle.scene_interpreter.specs.OpenFrame.{Opened}
use Rattle.scene_interpreter.specs.WholeFrame.{queue_said}
use Rattle.scene_c.specs.Arguments.{component_of_cell, shown_entity, target_of, text_component}
use Rattle.scene_c.specs.Calls.{Asks, HasNoRoom, Plays, untold}
use Rattle.scene_c.specs.HeldScene.{seen}
use Rattle.scene_c.specs.OpenScene.{made_in}
use Rattle.scene_c.specs.declared.held_scene.HeldScene.{HeldScene}
use Rattle.scene_c.specs.declared.open_scene.OpenScene.{OpenScene}
use Rattle.scene_c.specs.declared.value.SceneCell.{SceneCell}
use Rattle.scene_c.specs.declared.value.SceneEntity.{SceneEntity}

-- ---- components

-- a number that counts
abbrev pub count_of : ℤ → Option ℕ
count_of (pos n) = Some n
count_of (negsuc n) = None

-- so many items of a list from one on, where it has them
abbrev pub part_by : List ℕ → Option ℕ → Option ℕ → Option (List ℕ)
part_by items (Some from) (Some count) = if nat_le (from + count) (length items) then Some (take count (drop from items)) else None
part_by items from count = None

-- the component that a cell names; that of a text says where in the bytes it begins, and how long it is
abbrev pub component_in : List ℕ → SceneCell → Option (ℕ × Value)
component_in bytes c = if nat_eq c.shape 3
    then option_and_then (text_component c.kind) (part_by bytes (count_of c.x) (count_of c.y))
    else component_of_cell c

-- the first before others, where there are all of them
abbrev pub before_all : {A : Type 0} → Option A → Option (List A) → Option (List A)
before_all (Some a) (Some rest) = Some (a ∷ rest)
before_all first rest = None

-- those that cells name, where each names one
abbrev pub components_in : List ℕ → List SceneCell → Option (List (ℕ × Value))
components_in bytes [] = Some []
components_in bytes (c ∷ cells) = before_all (component_in bytes c) (components_in bytes cells)

-- ---- commands

-- the line that spawns with components
abbrev pub spawn_line : List (ℕ × Value) → Line
spawn_line cells = Do (Spawn cells)

-- the command that writes a component of an entity
abbrev pub write_of : SceneEntity → ℕ × Value → Command
write_of e c = Insert (target_of e) c.0 c.1

-- the commands that write to each entity the component at its place; there are as many of both
abbrev pub writes_in : List ℕ → List SceneEntity → List SceneCell → Option (List Command)
writes_in bytes [] [] = Some []
writes_in bytes (e ∷ entities) (c ∷ cells) =
    before_all (option_map (write_of e) (component_in bytes c)) (writes_in bytes entities cells)
writes_in bytes entities cells = None

-- no more of them than a queue has places
abbrev pub writes_of : List ℕ → List SceneEntity → List SceneCell → Option (List Command)
writes_of bytes entities cells = if nat_lt usual_limit (length cells) then None else writes_in bytes entities cells

-- ---- calls

-- the line that lists name; no memory may be found for a copy of what they name, and then nothing was done
abbrev pub AsksCopied : Option Line → Option HeldScene → Option HeldScene → ℕ → Type 0
AsksCopied line old new code = HasNoRoom old new code ⊎ Asks line old new code

-- how many spawns the last queue of a frame has
abbrev pub spawns_in : Option Opened → ℕ
spawns_in None = 0
spawns_in (Some f) = spawns f.last.commands

-- an entity, where there is one
abbrev pub shown_or : SceneEntity → Option Entity → SceneEntity
shown_or old None = old
shown_or old (Some e) = shown_entity e

-- what a command names as C sees it
abbrev pub shown_target : Target → SceneEntity
shown_target (New k) = record { index = k; generation = 0 }
shown_target (Id e) = shown_entity e

-- the name of the next spawn in an open frame: how many spawns its queue has
abbrev pub next_name : Interpreter → SceneEntity
next_name (Setting s) = record { index = 0; generation = 0 }
next_name (Playing s) = record { index = spawns_in s.frame; generation = 0 }

-- what a spawn that was done has spawned: in an open frame that name, and else the entity
abbrev pub spawned_in : OpenScene → OpenScene → SceneEntity → SceneEntity
spawned_in old new none =
    if frame_is_open (interpreter_of old.interpreter) then next_name (interpreter_of old.interpreter)
    else shown_or none (slice_get (made_in (said_of new.answer)) 0)

-- the same of the scene that a handle holds
abbrev pub spawned_by : Option HeldScene → Option HeldScene → SceneEntity → SceneEntity
spawned_by (Some old) (Some new) none = spawned_in (seen old) (seen new) none
spawned_by old new none = none

-- it is told, where it was done
abbrev pub TellsSpawned : ℕ → Option HeldScene → Option HeldScene → (before after : SceneEntity) → Type 0
TellsSpawned code old new before after = after ≡ (if nat_eq code 0 then spawned_by old new before else before)

-- commands are a frame of one queue; where the arguments name none, nothing was done
abbrev pub Submits : Option (List Command) → Option HeldScene → Option HeldScene → ℕ → Type 0
Submits None old new code = (new ≡ old) × (code ≡ 4)
Submits (Some commands) old new code =
    Plays (λ p. queue_said p (record { limit = usual_limit; commands = commands })) untold old new code

-- or no memory was found for their copies
abbrev pub SubmitsCopied : Option (List Command) → Option HeldScene → Option HeldScene → ℕ → Type 0
SubmitsCopied commands old new code = HasNoRoom old new code ⊎ Submits commands old new code

-- ---- kinds

-- a shape by its number
abbrev pub shape_by : ℕ → Option Shape
shape_by n = if nat_eq n 0 then Some shape.Tag
    else if nat_eq n 1 then Some shape.Int
    else if nat_eq n 2 then Some shape.Vec3
    else if nat_eq n 3 then Some shape.Text
    else if nat_eq n 4 then Some shape.Link
    else None

-- a kind by its name and its shape, where both are named
abbrev pub kind_by : Option (List ℕ) → Option Shape → Option (List ℕ × Shape)
kind_by (Some name) (Some s) = Some (name, s)
kind_by name s = None
