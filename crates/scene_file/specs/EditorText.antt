-- The JSON value of a world with the records of its past and of its future (docs/SCENE_FILES.md, "Version 2"). The keys
-- stand by their bytes.
use Rattle.std.specs.Prelude.{ℕ, List, [], ◌∷◌, ◌++◌, codes}
use Rattle.serde_json.specs.Data.{Data}
use Rattle.serde_json.specs.Written.{compact_text}
use Rattle.scene_model.specs.World.{World}
use Rattle.scene_validate.specs.Parts.{Parts, parts_of}
use Rattle.scene_journal.specs.Records.{Record}
use Rattle.scene_json_forms.specs.Text.{object_of}
use Rattle.scene_file_records.specs.Text.{records_text}
use Rattle.scene_file.specs.Text.{first_text, last_text}

-- the value of parts with records: those of the past, the oldest first, and those of the future, the next one first
abbrev pub editor_parts_text : Parts → (past future : List Record) → Data
editor_parts_text p past future = object_of (
    first_text p ++ ((codes "redo", records_text future) ∷ (last_text 2 p ++ ((codes "undo", records_text past) ∷ []))))

-- the value of a world with such records
abbrev pub editor_text : World → (past future : List Record) → Data
editor_text w past future = editor_parts_text (parts_of w) past future

-- what a save of them writes: the compact text of the value, and one newline
abbrev pub editor_saved : World → (past future : List Record) → List ℕ
editor_saved w past future = compact_text (editor_text w past future) ++ 10 ∷ []
