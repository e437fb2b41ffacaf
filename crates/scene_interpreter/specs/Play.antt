-- What each line says: the setup, and then the calls on the machine of saved worlds, line by line.
use Rattle.std.specs.Prelude.{ℕ, List, [], ◌++◌, length, reverse, Option, Some, None, Result, Ok, Err, option_map, codes}
use Rattle.scene_kinds.specs.declared.entity.Entity.{Entity}
use Rattle.scene_kinds.specs.declared.fault.Fault.{Fault}
use Rattle.scene_kinds.specs.declared.fault.Fault.TheVariants.{NoSuchEntity}
use Rattle.scene_kinds.specs.declared.refusal.Refusal.{Refusal}
use Rattle.scene_kinds.specs.declared.shape.Shape.{Shape}
use Rattle.scene_kinds.specs.Answers.{Outcome, refusal_of}
use Rattle.scene_kinds.specs.Schema.{Kinds, with_kind}
use Rattle.scene_model.specs.World.{World, new_world, row_of}
use Rattle.scene_machine.specs.Machine.{most_frames}
use Rattle.scene_queue.specs.Frames.{lone_frame}
use Rattle.scene_session.specs.Calls.{Answer, Asked, Submit, Advance as AdvanceCall, Undo as UndoCall, Redo as RedoCall}
use Rattle.scene_session.specs.Whole.{Whole, whole_of}
use Rattle.scene_session.specs.Owner.{OwnerState, machine_at, opening_owner, performed, whole_at, with_session}
use Rattle.scene_interpreter.specs.Phases.{with_phase, with_system}
use Rattle.scene_interpreter.specs.OpenFrame.{Opened, new_frame, with_command, with_queue, queues_of}
use Rattle.scene_kinds.specs.declared.cells.Row.{Row}
use Rattle.scene_pass.specs.Pass.{changed_since, added_since}
use Rattle.scene_pass.specs.declared.cell_name.CellName.{CellName}
use Rattle.scene_systems.specs.declared.filter.Filter.{Filter}
use Rattle.scene_systems.specs.declared.system_rule.SystemRule.{SystemRule}
use Rattle.scene_schedule.specs.Schedule.{ScheduleState, schedule_fault}
use Rattle.scene_undo.specs.declared.cursor.Cursor.{Cursor}
use Rattle.scene_undo.specs.Cursor.{cursor_of, since}
use Rattle.scene_undo.specs.Editor.{EditorState, at_depth, new_editor}
use Rattle.scene_interpreter.specs.declared.play_state.PlayState.{PlayState as Code}
use Rattle.scene_script.specs.declared.script_line.Line.{Line}
use Rattle.scene_script.specs.declared.script_line.Line.TheVariants.{Empty, Kind, Slots, Load, Calls, Depth, Do, Begin, Queue, Commit, Undo, Redo, Show, Get, Mark, Changed, Added, Phase, System, Clear, Advance, As, History, Dump, DumpAll}
use Rattle.scene_script.specs.declared.bad_line.BadLine.{BadLine}
use Rattle.scene_script.specs.declared.bad_line.BadLine.TheVariants.{SetupEnded, SceneLoaded, NoFrame, FrameOpen}
use Rattle.scene_json_forms.specs.declared.fault.FileFault.{FileFault}
use Rattle.scene_file.specs.Saving.{save_of, save_editor_of}
use Rattle.scene_file.specs.EditorScene.{loaded_editor}
use Rattle.scene_interpreter.specs.Said.{Said, Nothing, Taken, Queued, Called, Fault as SaysFault, Marked, Counted, Text, Changed as ChangedCells, Added as AddedCells, Bad, refused}
use Rattle.scene_print.specs.Printed.{row_text}
use Rattle.scene_print.specs.Shown.{show_text}

-- ---- the state between two lines, and cursors

-- with an owner as contracts see it, whichever it is
abbrev pub PlayState : Type 0
PlayState = Code OwnerState

-- the state of the code, over an owner that is seen so
abbrev pub state_by : {O : Type 0} → (O → OwnerState) → Code O → PlayState
state_by seen s = record { owner = seen s.owner; schema = s.schema; cursor = s.cursor; frame = s.frame; phases = s.phases }

-- the owner at first, the kinds, the cursor from before the first mark, no frame and no phases
abbrev pub opening_state : OwnerState → Kinds → PlayState
opening_state h kinds = record { owner = h; schema = kinds; cursor = record { rewinds = 0; tick = 0 }; frame = None; phases = [] }

-- the state with another owner
abbrev pub with_owner : PlayState → OwnerState → PlayState
with_owner s h = record s { owner = h }

-- the world now
abbrev pub now : PlayState → World
now s = (machine_at s.owner).now

-- the state with another cursor
abbrev pub with_cursor : PlayState → Cursor → PlayState
with_cursor s c = record s { cursor = c }

-- the state with another open frame, or with none
abbrev pub with_frame : PlayState → Option Opened → PlayState
with_frame s f = record s { frame = f }

-- the state with other phases
abbrev pub with_phases : PlayState → List (List SystemRule) → PlayState
with_phases s phases = record s { phases = phases }

-- ---- the answer of a line

-- what `get` finds: the text of the row, or that there is no such entity
abbrev pub row_said : Kinds → Option Row → Said
row_said kinds None = refused (refusal_of NoSuchEntity)
row_said kinds (Some row) = Text (row_text kinds row ++ codes "\n")

-- and of a world
abbrev pub get_said : World → Entity → Said
get_said w e = row_said w.schema (option_map (λ p. p.1) (row_of w e))

-- the filter that every kind set matches
abbrev pub no_filter : Filter
no_filter = record { need = 0; without = 0 }

-- the cells that a query finds after the tick of a cursor, or the refusal of that cursor
abbrev pub since_said : (List CellName → Said) → (ℕ → List CellName) → Result ℕ Refusal → Said
since_said list cells (Ok tick) = list (cells tick)
since_said list cells (Err r) = refused r

-- what `changed` lists
abbrev pub changed_said : PlayState → Said
changed_said s = since_said ChangedCells (changed_since (now s) no_filter) (since s.cursor (machine_at s.owner))

-- what `added` lists
abbrev pub added_said : PlayState → Said
added_said s = since_said AddedCells (added_since (now s) no_filter) (since s.cursor (machine_at s.owner))

-- a scene text as it is written, with its newline, or the fault of its save
abbrev pub saved_said : Result (List ℕ) FileFault → Said
saved_said (Ok text) = Text text
saved_said (Err fault) = SaysFault fault

-- what `dump` gives
abbrev pub dump_said : World → Said
dump_said w = saved_said (save_of w)

-- what `dumpall` gives
abbrev pub dumpall_said : Whole → Said
dumpall_said w = saved_said (save_editor_of w.machine.now (reverse w.past) w.future)

-- what a line is answered with, and the state after it
pub record StateReply : Type 0 where
  pub said : Said
  pub state : PlayState

-- the reply to a call, by what it came to
abbrev pub answer_reply : PlayState → OwnerState × Answer → StateReply
answer_reply s p = record { said = Called p.1; state = with_owner s p.0 }

-- the reply to a call of the session whose turn it is
abbrev pub call_reply : PlayState → Asked → StateReply
call_reply s a = answer_reply s (performed s.owner a)

-- the reply to a bad line, which changes nothing
abbrev pub bad_reply : PlayState → BadLine → StateReply
bad_reply s reason = record { said = Bad reason; state = s }

-- the reply of a meaning, and the state after it
abbrev pub query_reply : PlayState → Said → StateReply
query_reply s said = record { said = said; state = s }

-- the schedule that a script's phases make for its kinds
abbrev pub schedule_of : PlayState → ScheduleState
schedule_of s = record { schema = s.schema; phases = s.phases }

-- the reply to `advance` by the fault of its schedule, if there is one; then no call is made
abbrev pub advance_by : PlayState → Option Fault → StateReply
advance_by s None = call_reply s (AdvanceCall (schedule_of s))
advance_by s (Some fault) = query_reply s (refused (refusal_of fault))

-- the reply to `advance`; the phases stay
abbrev pub advance_reply : PlayState → StateReply
advance_reply s = advance_by s (schedule_fault s.schema s.phases)

-- the reply where no frame is open; a command is a frame by itself
abbrev pub lone_reply : PlayState → Line → StateReply
lone_reply s Empty = query_reply s Nothing
lone_reply s (Kind name shape) = bad_reply s SetupEnded
lone_reply s (Slots n) = bad_reply s SetupEnded
lone_reply s (Load text) = bad_reply s SetupEnded
lone_reply s (Calls n) = bad_reply s SetupEnded
lone_reply s (Depth n) = bad_reply s SetupEnded
lone_reply s (Do command) = call_reply s (Submit (lone_frame command))
lone_reply s Begin = query_reply (with_frame s (Some new_frame)) Taken
lone_reply s Queue = bad_reply s NoFrame
lone_reply s Commit = bad_reply s NoFrame
lone_reply s Undo = call_reply s UndoCall
lone_reply s Redo = call_reply s RedoCall
lone_reply s Show = query_reply s (Text (show_text (now s)))
lone_reply s (Get e) = query_reply s (get_said (now s) e)
lone_reply s Mark = query_reply (with_cursor s (cursor_of (machine_at s.owner))) (Marked (cursor_of (machine_at s.owner)))
lone_reply s Changed = query_reply s (changed_said s)
lone_reply s Added = query_reply s (added_said s)
lone_reply s Phase = query_reply (with_phases s (with_phase s.phases)) Taken
lone_reply s (System rule) = query_reply (with_phases s (with_system s.phases rule)) Taken
lone_reply s Clear = query_reply (with_phases s []) Taken
lone_reply s Advance = advance_reply s
lone_reply s (As n) = query_reply (with_owner s (with_session s.owner n)) Taken
lone_reply s History = query_reply s (Counted (length s.owner.history))
lone_reply s Dump = query_reply s (dump_said (now s))
lone_reply s DumpAll = query_reply s (dumpall_said (whole_at s.owner))

-- the reply to a command in a frame: it is queued, or else refused and the frame is as it was
abbrev pub queued_reply : PlayState → Opened → Outcome (Unit {0}) Opened → StateReply
queued_reply s f (Ok p) = query_reply (with_frame s (Some p.1)) Queued
queued_reply s f (Err r) = query_reply (with_frame s (Some f)) (refused r)

-- the reply in an open frame: commands, further queues and the commit, which ends it; nothing else may come there
abbrev pub frame_reply : PlayState → Opened → Line → StateReply
frame_reply s f Empty = query_reply (with_frame s (Some f)) Nothing
frame_reply s f (Do command) = queued_reply s f (with_command f command)
frame_reply s f Queue = query_reply (with_frame s (Some (with_queue f))) Taken
frame_reply s f Commit = call_reply (with_frame s None) (Submit (queues_of f))
frame_reply s f (Kind name shape) = bad_reply (with_frame s (Some f)) SetupEnded
frame_reply s f (Slots n) = bad_reply (with_frame s (Some f)) SetupEnded
frame_reply s f (Load text) = bad_reply (with_frame s (Some f)) SetupEnded
frame_reply s f (Calls n) = bad_reply (with_frame s (Some f)) SetupEnded
frame_reply s f (Depth n) = bad_reply (with_frame s (Some f)) SetupEnded
frame_reply s f line = bad_reply (with_frame s (Some f)) FrameOpen

-- the reply to a line after the setup, by the frame that is open, if one is
abbrev pub reply_within : PlayState → Line → Option Opened → StateReply
reply_within s line None = lone_reply s line
reply_within s line (Some f) = frame_reply s f line

-- the reply to a line after the setup
abbrev pub line_reply : PlayState → Line → StateReply
line_reply s line = reply_within s line s.frame

-- a line by what it says, or why it is bad
abbrev pub said_reply : PlayState → Result Line BadLine → StateReply
said_reply s (Ok line) = line_reply s line
said_reply s (Err reason) = bad_reply s reason

-- ---- the setup

-- what the setup has come to: the kinds and the slot limit so far, or the editor of the scene that was loaded last
pub data Base : Type 0 where
  Declared : Kinds → ℕ → Base
  Loaded : EditorState → Base

-- and how many calls there may be, and how many frames can be undone
pub record SetupState : Type 0 where
  pub base : Base
  pub calls : ℕ
  pub depth : ℕ

-- the kinds so far
abbrev pub base_kinds : Base → Kinds
base_kinds (Declared kinds limit) = kinds
base_kinds (Loaded e) = e.world.schema

-- and of the setup, by its base
abbrev pub setup_kinds : SetupState → Kinds
setup_kinds s = base_kinds s.base

-- the editor with which the run begins, of a depth: of a world without entities, or the loaded one
abbrev pub first_editor : Base → ℕ → EditorState
first_editor (Declared kinds limit) depth = new_editor (new_world kinds limit) depth
first_editor (Loaded e) depth = at_depth depth e

-- the owner with which the run begins
abbrev pub first_owner : SetupState → OwnerState
first_owner s = opening_owner (whole_of (first_editor s.base s.depth)) s.calls

-- the state in which the run begins
abbrev pub first_state : SetupState → PlayState
first_state s = opening_state (first_owner s) (setup_kinds s)

-- what a line of the setup is answered with, and the setup after it
pub record SetupReply : Type 0 where
  pub said : Said
  pub setup : SetupState

-- the reply to a line that isn't bad, by its meaning and the setup after it
abbrev pub setup_answer : Said → SetupState → SetupReply
setup_answer said s = record { said = said; setup = s }

-- a bad line leaves the setup as it was
abbrev pub setup_bad : SetupState → BadLine → SetupReply
setup_bad s reason = record { said = Bad reason; setup = s }

-- the setup with another base
abbrev pub with_base : SetupState → Base → SetupState
with_base s base = record s { base = base }

-- the reply to a declaration; a refused one leaves the kinds as they were
abbrev pub declared_reply : SetupState → Kinds → ℕ → Outcome ℕ Kinds → SetupReply
declared_reply s kinds limit (Ok p) = setup_answer Taken (with_base s (Declared p.1 limit))
declared_reply s kinds limit (Err r) = setup_answer (refused r) (with_base s (Declared kinds limit))

-- the reply to `kind`; a loaded scene has its kinds
abbrev pub kind_reply : SetupState → Base → List ℕ → Shape → SetupReply
kind_reply s (Declared kinds limit) name shape = declared_reply s kinds limit (with_kind kinds name shape)
kind_reply s (Loaded e) name shape = setup_bad s SceneLoaded

-- the reply to `slots`; a loaded scene has its limit
abbrev pub slots_reply : SetupState → Base → ℕ → SetupReply
slots_reply s (Declared kinds limit) n = setup_answer Taken (with_base s (Declared kinds n))
slots_reply s (Loaded e) n = setup_bad s SceneLoaded

-- the reply to `load`, by the editor that its text says or the first fault, which leaves the setup as it was
abbrev pub load_reply : SetupState → Result EditorState FileFault → SetupReply
load_reply s (Ok e) = setup_answer Taken (with_base s (Loaded e))
load_reply s (Err fault) = setup_answer (SaysFault fault) s

-- the reply to `calls`
abbrev pub calls_reply : SetupState → ℕ → SetupReply
calls_reply s n = setup_answer Taken (record s { calls = n })

-- the reply to `depth`
abbrev pub depth_reply : SetupState → ℕ → SetupReply
depth_reply s n = setup_answer Taken (record s { depth = n })

-- the reply to a line of the setup, and none where the line ends it; an empty one and a comment don't end it, nor does
-- a line of a frame, which is bad here
abbrev pub setup_reply : SetupState → Line → Option SetupReply
setup_reply s Empty = Some (setup_answer Nothing s)
setup_reply s (Kind name shape) = Some (kind_reply s s.base name shape)
setup_reply s (Slots n) = Some (slots_reply s s.base n)
setup_reply s (Load text) = Some (load_reply s (loaded_editor most_frames text))
setup_reply s (Calls n) = Some (calls_reply s n)
setup_reply s (Depth n) = Some (depth_reply s n)
setup_reply s Queue = Some (setup_bad s NoFrame)
setup_reply s Commit = Some (setup_bad s NoFrame)
setup_reply s line = None

-- the reply to a line by what it says; a bad one doesn't end the setup
abbrev pub setup_said : SetupState → Result Line BadLine → Option SetupReply
setup_said s (Ok line) = setup_reply s line
setup_said s (Err reason) = Some (setup_bad s reason)

-- no kinds yet, and the greatest limits that lines can set
abbrev pub first_setup : SetupState
first_setup = record { base = Declared [] 1048576; calls = 1048576; depth = most_frames }
