-- What the commands over a scene text print: `scene check` and `scene print`.
use Rattle.std.specs.Prelude.{ℕ, List, ◌++◌, Bool, true, false, Result, Ok, Err, codes, decimal, length}
use Rattle.scene_machine.specs.Machine.{most_frames}
use Rattle.scene_model.specs.World.{World}
use Rattle.scene_undo.specs.Editor.{EditorState}
use Rattle.scene_json_forms.specs.declared.fault.FileFault.{FileFault}
use Rattle.scene_file.specs.EditorScene.{loaded_editor}
use Rattle.scene_pass.specs.Pass.{matching}
use Rattle.scene_print.specs.Shown.{show_text}
use Rattle.scene_interpreter.specs.FileFaultText.{file_fault_text}
use Rattle.scene_interpreter.specs.Play.{no_filter}

-- how many entities are alive
abbrev pub live_count : World → ℕ
live_count w = length (matching w no_filter)

-- what a check says of a scene that it accepts: its tick, and how many entities are alive
abbrev pub good_text : World → List ℕ
good_text w = codes "good " ++ (decimal w.tick ++ (codes " " ++ (decimal (live_count w) ++ codes "\n")))

-- a text of the world that was read, or else the line of the fault
abbrev pub scene_text : (World → List ℕ) → Result EditorState FileFault → List ℕ
scene_text text (Ok e) = text e.world
scene_text text (Err fault) = file_fault_text fault

-- whether a scene was read
abbrev pub is_accepted : Result EditorState FileFault → Bool
is_accepted (Ok e) = true
is_accepted (Err fault) = false

-- what `scene check` prints for these bytes
abbrev pub check_output : List ℕ → List ℕ
check_output bytes = scene_text good_text (loaded_editor most_frames bytes)

-- what `scene print` prints for these bytes
abbrev pub print_output : List ℕ → List ℕ
print_output bytes = scene_text show_text (loaded_editor most_frames bytes)

-- whether both accept these bytes
abbrev pub is_scene : List ℕ → Bool
is_scene bytes = is_accepted (loaded_editor most_frames bytes)
