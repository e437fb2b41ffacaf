-- Worked texts of version 2: what is written for a world of one spawn, and for the same where the spawn was undone.
use Rattle.std.specs.Prelude.{◌≡◌, ℕ, List, [], ◌∷◌, ◌++◌, codes, true}
use Rattle.scene_kinds.specs.declared.shape.Shape.TheVariants as shape
use Rattle.scene_deltas.specs.declared.delta.Delta.TheVariants.{Spawned}
use Rattle.scene_journal.specs.Records.{Record, record_of}
use Rattle.scene_validate.specs.Parts.{Parts, world_of}
use Rattle.scene_validate.specs.Examples.{ent, int, row}
use Rattle.scene_file.specs.EditorText.{editor_saved}

-- no entities, one kind, an Int, and the greatest limit
abbrev pub before_spawn : Parts
before_spawn = record {
  schema = (codes "A", shape.Int) ∷ [];
  limit = 1048576;
  tick = 0;
  generations = [];
  free = [];
  tables = [];
  children = [];
  resources = [];
}

-- the same after a frame that spawned one entity with an Int of 5
abbrev pub after_spawn : Parts
after_spawn = record before_spawn {
  tick = 1;
  generations = 1 ∷ [];
  tables = (1, row (ent 0 1) 1 1 ∷ []) ∷ [];
}

-- the records of that frame alone
abbrev pub spawn : List Record
spawn = record_of 0 (Spawned (ent 0 1) ((0, int 5 1 1) ∷ []) true ∷ []) ∷ []

-- the text after the frame
abbrev pub spawned_text : List ℕ
spawned_text =
    codes "{\"children\":[],\"free\":[],\"generations\":[1],\"kinds\":[[\"A\",\"Int\"]],\"limit\":1048576,\"redo\":[],\"resources\":[],\"scene\":2,"
    ++ codes "\"tables\":[{\"kinds\":[0],\"rows\":[{\"cells\":[[5,1,1]],\"entity\":\"0v1\"}]}],\"tick\":1,"
    ++ codes "\"undo\":[{\"deltas\":[{\"cells\":[[0,5,1,1]],\"entity\":\"0v1\",\"fresh\":true,\"op\":\"spawned\"}],\"tick\":0}]}"

-- the text where the frame was undone
abbrev pub undone_text : List ℕ
undone_text =
    codes "{\"children\":[],\"free\":[],\"generations\":[],\"kinds\":[[\"A\",\"Int\"]],\"limit\":1048576,"
    ++ codes "\"redo\":[{\"deltas\":[{\"cells\":[[0,5,1,1]],\"entity\":\"0v1\",\"fresh\":true,\"op\":\"spawned\"}],\"tick\":0}],"
    ++ codes "\"resources\":[],\"scene\":2,\"tables\":[],\"tick\":0,\"undo\":[]}"

-- the first is written, with a newline
abbrev pub SpawnIsSaved : Type 0
SpawnIsSaved = editor_saved (world_of after_spawn) spawn [] ≡ spawned_text ++ 10 ∷ []

-- and so is the second
abbrev pub UndoneSpawnIsSaved : Type 0
UndoneSpawnIsSaved = editor_saved (world_of before_spawn) [] spawn ≡ undone_text ++ 10 ∷ []
