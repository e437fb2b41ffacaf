-- What lines ask of the state as JSON (docs/SHELL.md, "JSON").
use Rattle.std.specs.Prelude.{ℕ, List, [], ◌∷◌, codes, reverse, option_map, Option, Some, None, Result, Ok, Err}
use Rattle.serde_json.specs.Data.{Data}
use Rattle.scene_file.specs.EditorText.{editor_text}
use Rattle.scene_file.specs.Saving.{save_editor_of, save_of}
use Rattle.scene_file.specs.Text.{world_text}
use Rattle.scene_json_forms.specs.declared.fault.FileFault.{FileFault}
use Rattle.scene_kinds.specs.Answers.{refusal_of}
use Rattle.scene_kinds.specs.Schema.{Kinds}
use Rattle.scene_kinds.specs.declared.cells.Row.{Row}
use Rattle.scene_kinds.specs.declared.entity.Entity.{Entity}
use Rattle.scene_kinds.specs.declared.fault.Fault.TheVariants.{NoSuchEntity}
use Rattle.scene_model.specs.World.{World, row_of}
use Rattle.scene_session.specs.Whole.{Whole}
use Rattle.scene_questions.specs.Questions.{question_json}
use Rattle.scene_undo.specs.Editor.{EditorState}
use Rattle.scene_print.specs.JsonObjects.{answer_of}
use Rattle.scene_print.specs.JsonShown.{row_answer, world_answer}
use Rattle.scene_print.specs.JsonTold.{file_fault_json, refused_json}
use Rattle.scene_interpreter.specs.declared.json_question.StateJson.{StateJson}
use Rattle.scene_interpreter.specs.declared.json_question.StateJson.TheVariants.{Show, Get, Dump, DumpAll, Ask}

-- the row of `get`, or that there is no such entity
abbrev pub got_json : Kinds → Option Row → Data
got_json kinds None = refused_json (refusal_of NoSuchEntity)
got_json kinds (Some row) = row_answer kinds row

-- and of a world
abbrev pub get_json : World → Entity → Data
get_json w e = got_json w.schema (option_map (λ p. p.1) (row_of w e))

-- a scene text
abbrev pub scene_json : Data → Data
scene_json d = answer_of (codes "scene") ((codes "text", d) ∷ [])

-- the scene text of a value, unless its save has a fault
abbrev pub saved_json : Data → Result (List ℕ) FileFault → Data
saved_json d (Ok text) = scene_json d
saved_json d (Err fault) = file_fault_json fault

-- the JSON of `dump`
abbrev pub dump_json : World → Data
dump_json w = saved_json (world_text w) (save_of w)

-- the JSON of `dumpall`
abbrev pub dumpall_json : Whole → Data
dumpall_json w =
    saved_json (editor_text w.machine.now (reverse w.past) w.future) (save_editor_of w.machine.now (reverse w.past) w.future)

-- a machine with its records as the editor that it is of
abbrev pub editor_in : Whole → EditorState
editor_in w = record { world = w.machine.now; past = w.past; future = w.future; rewinds = w.machine.rewinds; depth = w.machine.depth }

-- what is asked of a machine with its records
abbrev pub asked_json : StateJson → Whole → Data
asked_json Show w = world_answer w.machine.now
asked_json (Get e) w = get_json w.machine.now e
asked_json Dump w = dump_json w.machine.now
asked_json DumpAll w = dumpall_json w
asked_json (Ask question) w = question_json question (editor_in w)
