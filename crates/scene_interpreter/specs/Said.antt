-- What the answer to a line means, and its text.
use Rattle.std.specs.Prelude.{ℕ, List, [], ◌++◌, Option, Some, None, codes, decimal}
use Rattle.scene_kinds.specs.Schema.{Kinds}
use Rattle.scene_kinds.specs.declared.entity.Entity.{Entity}
use Rattle.scene_kinds.specs.declared.refusal.Refusal.{Refusal}
use Rattle.scene_json_forms.specs.declared.fault.FileFault.{FileFault}
use Rattle.scene_pass.specs.declared.cell_name.CellName.{CellName}
use Rattle.scene_print.specs.Printed.{refusal_line}
use Rattle.scene_script.specs.declared.bad_line.BadLine.{BadLine}
use Rattle.scene_session.specs.Calls.{Answer, Done, Undone, Redone, Refused}
use Rattle.scene_print.specs.Listed.{listed_text}
use Rattle.scene_print.specs.Shown.{entities_text}
use Rattle.scene_undo.specs.declared.cursor.Cursor.{Cursor}
use Rattle.scene_interpreter.specs.FileFaultText.{file_fault_text}

-- what an answer means, whoever prints it
pub data Said : Type 0 where
  -- nothing: the line is empty or a comment
  Nothing : Said
  -- the setup, the open frame, the turn or the systems are now as the line says
  Taken : Said
  -- the command stands last in the open frame
  Queued : Said
  -- a call came to this, or something was refused before a call was made
  Called : Answer → Said
  -- a scene text wasn't loaded or saved
  Fault : FileFault → Said
  -- the cursor of now
  Marked : Cursor → Said
  -- how many calls there were
  Counted : ℕ → Said
  -- a text of the world, or of all that the editor keeps
  Text : List ℕ → Said
  -- the cells that were changed since the mark
  Changed : List CellName → Said
  -- the cells that were added since the mark
  Added : List CellName → Said
  -- nothing was done: the line is bad, and this is why
  Bad : BadLine → Said

-- something was refused
abbrev pub refused : Refusal → Said
refused r = Called (Refused r)

-- ---- its text

-- what a frame made: the entities that it spawned, in order
abbrev pub made_text : List Entity → List ℕ
made_text es = codes "done" ++ (entities_text es ++ codes "\n")

-- the line of a refusal: its fault by number and name, and its place where it has one
abbrev pub refused_text : Refusal → List ℕ
refused_text r = codes "refused " ++ (refusal_line r ++ codes "\n")

-- what a call prints, by its answer
abbrev pub answer_text : Answer → List ℕ
answer_text (Done es) = made_text es
answer_text Undone = codes "undone\n"
answer_text Redone = codes "redone\n"
answer_text (Refused r) = refused_text r

-- a cursor: its count of rewinds, then its tick
abbrev pub mark_text : Cursor → List ℕ
mark_text c = codes "mark " ++ (decimal c.rewinds ++ (codes " " ++ (decimal c.tick ++ codes "\n")))

-- how many calls there were
abbrev pub history_text : ℕ → List ℕ
history_text count = codes "history " ++ (decimal count ++ codes "\n")

-- the text of an answer, where these are the kinds; that of a bad line says no reason
abbrev pub said_text : Kinds → Said → List ℕ
said_text kinds Nothing = []
said_text kinds Taken = codes "ok\n"
said_text kinds Queued = codes "queued\n"
said_text kinds (Called answer) = answer_text answer
said_text kinds (Fault fault) = file_fault_text fault
said_text kinds (Marked cursor) = mark_text cursor
said_text kinds (Counted count) = history_text count
said_text kinds (Text text) = text
said_text kinds (Changed cells) = listed_text (codes "changed") kinds cells
said_text kinds (Added cells) = listed_text (codes "added") kinds cells
said_text kinds (Bad reason) = codes "bad line\n"

-- why a line is bad, where that is its answer
abbrev pub bad_in : Said → Option BadLine
bad_in (Bad reason) = Some reason
bad_in said = None
