-- The editor that a scene text says, or the first fault (docs/SCENE_FILES.md, "Reading").
use Rattle.std.specs.Prelude.{ℕ, List, Option, Some, None, Result, Ok, Err, reverse, take}
use Rattle.serde_json.specs.Data.{Data}
use Rattle.scene_model.specs.World.{World}
use Rattle.scene_journal.specs.Records.{Record}
use Rattle.scene_journal.specs.FirstFaults.{first_fault}
use Rattle.scene_undo.specs.Editor.{EditorState}
use Rattle.scene_validate.specs.Rules.{first_broken}
use Rattle.scene_json_forms.specs.declared.fault.FileFault.{FileFault}
use Rattle.scene_json_forms.specs.declared.fault.FileFault.TheVariants.{BadRecord}
use Rattle.scene_json_forms.specs.Reading.{◌>>=◌}
use Rattle.scene_file.specs.EditorWalk.{Saved, saved_in}
use Rattle.scene_file.specs.Scene.{if_unbroken, json_in}

-- an editor of a world that keeps the newest records of a past, whose oldest stands first, and all of a future
abbrev pub editor_of : (depth : ℕ) → (past future : List Record) → World → EditorState
editor_of depth past future w = record { world = w; past = take depth (reverse past); future = future; rewinds = 0; depth = depth }

-- an editor as its text gives it: the same world and records, as many of the past as a depth keeps, and no undos so far
abbrev pub loaded_again : (depth : ℕ) → EditorState → EditorState
loaded_again depth e = record { world = e.world; past = take depth e.past; future = e.future; rewinds = 0; depth = depth }

-- the editor, unless a record doesn't fit
abbrev pub if_fit : Option (ℕ × ℕ) → EditorState → Result EditorState FileFault
if_fit None e = Ok e
if_fit (Some p) e = Err (BadRecord p.0 p.1)

-- the editor of a world with its records, all of which are tried before the depth drops any
abbrev pub with_records : (depth : ℕ) → (past future : List Record) → World → Result EditorState FileFault
with_records depth past future w = if_fit (first_fault (reverse past) future w) (editor_of depth past future w)

-- the editor of parts and records: first comes the world, and then what it did
abbrev pub editor_saved_as : ℕ → Saved → Result EditorState FileFault
editor_saved_as depth s = if_unbroken (first_broken s.parts) s.parts >>= with_records depth s.past s.future

-- the editor of a JSON value
abbrev pub editor_in : ℕ → Data → Result EditorState FileFault
editor_in depth d = saved_in d >>= editor_saved_as depth

-- what a text says of either version, before a rule is tried
abbrev pub said_in : List ℕ → Result Saved FileFault
said_in bytes = json_in bytes >>= saved_in

-- the editor of a text, which keeps so many records of its past
abbrev pub loaded_editor : ℕ → List ℕ → Result EditorState FileFault
loaded_editor depth bytes = json_in bytes >>= editor_in depth
