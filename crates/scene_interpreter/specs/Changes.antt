-- Which lines may change an interpreter: those that have to be kept, so that they can be played again.
use Rattle.std.specs.Prelude.{ℕ, List, Bool, true, false, Option, Some, None, is_some, Result, Ok, Err}
use Rattle.scene_script.specs.declared.script_line.Line.{Line}
use Rattle.scene_script.specs.declared.script_line.Line.TheVariants.{Empty, Kind, Slots, Load, Calls, Depth, Do, Queue, Commit, Show, Get, Changed, Added, History, Dump, DumpAll}
use Rattle.scene_script.specs.declared.bad_line.BadLine.{BadLine}
use Rattle.scene_script.specs.Script.{line_in}
use Rattle.scene_interpreter.specs.OpenFrame.{Opened}
use Rattle.scene_interpreter.specs.Play.{Base, Declared, Loaded}
use Rattle.scene_interpreter.specs.Interpreter.{Interpreter, Setting, Playing, interpreter_kinds}

-- whether a frame is open
abbrev pub frame_is_open : Interpreter → Bool
frame_is_open (Setting s) = false
frame_is_open (Playing s) = is_some s.frame

-- whether a line declares something, which it may where no scene is loaded
abbrev pub declares : Base → Bool
declares (Declared kinds limit) = true
declares (Loaded e) = false

-- whether a line may change the setup; one that ends it does, also where it only asks
abbrev pub changes_setup : Base → Line → Bool
changes_setup base Empty = false
changes_setup base Queue = false
changes_setup base Commit = false
changes_setup base (Kind name shape) = declares base
changes_setup base (Slots n) = declares base
changes_setup base line = true

-- whether a line may change the state where no frame is open: not one that asks, nor one that is bad there
abbrev pub changes_alone : Line → Bool
changes_alone Empty = false
changes_alone (Kind name shape) = false
changes_alone (Slots n) = false
changes_alone (Load text) = false
changes_alone (Calls n) = false
changes_alone (Depth n) = false
changes_alone Queue = false
changes_alone Commit = false
changes_alone Show = false
changes_alone (Get e) = false
changes_alone Changed = false
changes_alone Added = false
changes_alone History = false
changes_alone Dump = false
changes_alone DumpAll = false
changes_alone line = true

-- and in an open frame: a command, a further queue and the commit
abbrev pub changes_frame : Line → Bool
changes_frame (Do command) = true
changes_frame Queue = true
changes_frame Commit = true
changes_frame line = false

-- by the frame that is open, if one is
abbrev pub changes_within : Option Opened → Line → Bool
changes_within None line = changes_alone line
changes_within (Some f) line = changes_frame line

-- a bad line changes nothing
abbrev pub changes_said : (Line → Bool) → Result Line BadLine → Bool
changes_said by (Ok line) = by line
changes_said by (Err reason) = false

-- whether a line that says this may change the interpreter
abbrev pub said_changes : Interpreter → Result Line BadLine → Bool
said_changes (Setting s) said = changes_said (changes_setup s.base) said
said_changes (Playing s) said = changes_said (changes_within s.frame) said

-- and a line by its bytes
abbrev pub changes : Interpreter → List ℕ → Bool
changes p bytes = said_changes p (line_in (interpreter_kinds p) bytes)
