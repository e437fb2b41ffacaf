-- Worked texts of version 2: the editors that they say, and the first fault of texts that differ from them.
use Rattle.std.specs.Prelude.{◌≡◌, ℕ, List, [], ◌++◌, codes, Ok, Err}
use Rattle.scene_validate.specs.Parts.{world_of}
use Rattle.scene_validate.specs.Examples.{small}
use Rattle.scene_undo.specs.Editor.{new_editor}
use Rattle.scene_json_forms.specs.declared.fault.FileFault.TheVariants.{NotJson, UnknownKey, BadField, BadVersion, BadWorld, BadRecord}
use Rattle.scene_file.specs.Examples.{small_text}
use Rattle.scene_file.specs.EditorExamples.{before_spawn, after_spawn, spawn, spawned_text, undone_text}
use Rattle.scene_file.specs.EditorScene.{editor_of, loaded_editor}

-- the record of a spawn with this cell, at a tick
abbrev pub frame_of : (cell tick : List ℕ) → List ℕ
frame_of cell tick =
    codes "{\"deltas\":[{\"cells\":[" ++ cell ++ codes "],\"entity\":\"0v1\",\"fresh\":true,\"op\":\"spawned\"}],\"tick\":" ++ tick ++ codes "}"

-- the text after a spawn, with these rows, records of the future and records of the past
abbrev pub after_with : (rows redo undo : List ℕ) → List ℕ
after_with rows redo undo =
    codes "{\"children\":[],\"free\":[],\"generations\":[1],\"kinds\":[[\"A\",\"Int\"]],\"limit\":1048576,\"redo\":[" ++ redo
    ++ codes "],\"resources\":[],\"scene\":2,\"tables\":[{\"kinds\":[0],\"rows\":[" ++ rows ++ codes "]}],\"tick\":1,\"undo\":[" ++ undo ++ codes "]}"

-- the text before it, with these records of the future, resources and records of the past
abbrev pub before_with : (redo resources undo : List ℕ) → List ℕ
before_with redo resources undo =
    codes "{\"children\":[],\"free\":[],\"generations\":[],\"kinds\":[[\"A\",\"Int\"]],\"limit\":1048576,\"redo\":" ++ redo
    ++ codes ",\"resources\":" ++ resources ++ codes ",\"scene\":2,\"tables\":[],\"tick\":0,\"undo\":" ++ undo ++ codes "}"

-- the row that the spawn pushed
abbrev pub spawned_row : List ℕ
spawned_row = codes "{\"cells\":[[5,1,1]],\"entity\":\"0v1\"}"

-- the record of the spawn
abbrev pub spawn_frame : List ℕ
spawn_frame = frame_of (codes "[0,5,1,1]") (codes "0")

-- a text with and without its spawn is read, with the depth that is asked for: no record is kept at depth 0, but a
-- future isn't cut; a text of version 1 is read as an editor without records
abbrev pub SpawnIsLoaded : Type 0
SpawnIsLoaded =
    (after_with spawned_row [] spawn_frame ≡ spawned_text)
    × (before_with (codes "[" ++ spawn_frame ++ codes "]") (codes "[]") (codes "[]") ≡ undone_text)
    × (loaded_editor 8 spawned_text ≡ Ok (editor_of 8 spawn [] (world_of after_spawn)))
    × (loaded_editor 0 spawned_text ≡ Ok (new_editor (world_of after_spawn) 0))
    × (loaded_editor 8 (codes "\t" ++ undone_text ++ codes "\n") ≡ Ok (editor_of 8 [] spawn (world_of before_spawn)))
    × (loaded_editor 0 undone_text ≡ Ok (editor_of 0 [] spawn (world_of before_spawn)))
    × (loaded_editor 8 small_text ≡ Ok (new_editor (world_of small) 8))

-- records that don't fit, of the past and of the future; a depth drops none before it is tried, and the world comes
-- before them
abbrev pub RecordFaults : Type 0
RecordFaults =
    (loaded_editor 8 (after_with spawned_row [] (frame_of (codes "[0,5,1,1]") (codes "3"))) ≡ Err (BadRecord 0 1))
    × (loaded_editor 0 (after_with spawned_row [] (frame_of (codes "[0,5,1,1]") (codes "3"))) ≡ Err (BadRecord 0 1))
    × (loaded_editor 8 (after_with spawned_row [] (frame_of (codes "[0,6,1,1]") (codes "0"))) ≡ Err (BadRecord 0 0))
    × (loaded_editor 8 (before_with (codes "[" ++ frame_of (codes "[0,5,1,2]") (codes "0") ++ codes "]") (codes "[]") (codes "[]"))
    ≡ Err (BadRecord 0 0))
    × (loaded_editor 8 (after_with spawned_row (codes "{\"deltas\":[],\"tick\":0}") spawn_frame) ≡ Err (BadRecord 1 0))
    × (loaded_editor 8
    (after_with spawned_row (codes "{\"deltas\":[{\"after\":[\"0v1\",0],\"before\":null,\"entity\":\"0v1\",\"op\":\"linked\"}],\"tick\":1}")
    spawn_frame) ≡ Err (BadRecord 1 0))
    × (loaded_editor 8 (after_with spawned_row [] (spawn_frame ++ codes "," ++ frame_of (codes "[0,5,1,1]") (codes "3"))) ≡ Err (BadRecord 0 1))
    × (loaded_editor 8 (after_with spawned_row [] (frame_of (codes "[0,5,1,1]") (codes "3") ++ codes "," ++ spawn_frame)) ≡ Err (BadRecord 1 1))
    × (loaded_editor 8 (after_with [] [] (frame_of (codes "[0,5,1,1]") (codes "3"))) ≡ Err (BadWorld 6))

-- faults of the form: the versions and their keys; an unknown key comes first, and `redo` before `resources`, and these
-- before `undo`
abbrev pub EditorFaults : Type 0
EditorFaults =
    (loaded_editor 8 (codes "{\"scene\":2}") ≡ Err (BadField (codes "children")))
    × (loaded_editor 8 (codes "{\"scene\":1}") ≡ Err (BadField (codes "children")))
    × (loaded_editor 8 (codes "{\"scene\":3}") ≡ Err (BadVersion 3))
    × (loaded_editor 8 (codes "{\"scene\":0}") ≡ Err (BadVersion 0))
    × (loaded_editor 8 (codes "{\"scene\":1,\"scene\":2,\"undo\":[]}") ≡ Err (BadField (codes "children")))
    × (loaded_editor 8 (codes "{\"scene\":1,\"undo\":[]}") ≡ Err (UnknownKey (codes "undo")))
    × (loaded_editor 8 (codes "{\"redo\":[],\"scene\":1,\"undo\":[]}") ≡ Err (UnknownKey (codes "redo")))
    × (loaded_editor 8 (before_with (codes "0,\"zz\":0") (codes "[]") (codes "[]")) ≡ Err (UnknownKey (codes "zz")))
    × (loaded_editor 8 (before_with (codes "0") (codes "0") (codes "0")) ≡ Err (BadField (codes "redo")))
    × (loaded_editor 8 (before_with (codes "[]") (codes "0") (codes "0")) ≡ Err (BadField (codes "resources")))
    × (loaded_editor 8 (before_with (codes "[]") (codes "[]") (codes "0")) ≡ Err (BadField (codes "undo")))
    × (loaded_editor 8 (before_with (codes "[]") (codes "[]") (codes "[{\"deltas\":[],\"tick\":0,\"x\":0}]")) ≡ Err (UnknownKey (codes "undo[0].x")))
    × (loaded_editor 8 (before_with (codes "[{\"tick\":0}]") (codes "[]") (codes "[]")) ≡ Err (BadField (codes "redo[0].deltas")))
    × (loaded_editor 8 (spawned_text ++ spawned_text) ≡ Err NotJson)
