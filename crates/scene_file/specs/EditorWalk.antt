-- The walk through a scene text of version 1 or 2 (docs/SCENE_FILES.md, "The walk"): the parts and the records that it
-- says, or the first fault.
use Rattle.std.specs.Prelude.{ℕ, List, [], ◌∷◌, codes, Result, Ok, Err, nat_eq, if◌then◌else◌}
use Rattle.serde_json.specs.Data.{Data, Members}
use Rattle.scene_validate.specs.Parts.{Parts}
use Rattle.scene_journal.specs.Records.{Record}
use Rattle.scene_json_forms.specs.declared.fault.FileFault.{FileFault}
use Rattle.scene_json_forms.specs.declared.fault.FileFault.TheVariants.{BadVersion}
use Rattle.scene_json_forms.specs.Reading.{◌>>=◌, object_at, key_of}
use Rattle.scene_file_records.specs.Walk.{records_at}
use Rattle.scene_file.specs.Walk.{head_of, tail_of, first_parts, version_of}

-- the parts of a world, the records of its past, the oldest first, and those of its future, the next one first
pub record Saved : Type 0 where
  pub parts : Parts
  pub past : List Record
  pub future : List Record

-- the eleven keys, by their bytes
abbrev pub editor_keys : List (List ℕ)
editor_keys =
    codes "children" ∷ codes "free" ∷ codes "generations" ∷ codes "kinds" ∷ codes "limit" ∷ codes "redo" ∷ codes "resources" ∷ codes "scene"
    ∷ codes "tables" ∷ codes "tick" ∷ codes "undo" ∷ []

-- the keys of the object in their order
abbrev pub saved_of : Members → Result Saved FileFault
saved_of ms =
    head_of ms >>= λ head. key_of (records_at head.schema) [] (codes "redo") ms
    >>= λ future. tail_of head ms
    >>= λ parts. key_of (records_at parts.schema) [] (codes "undo") ms >>= λ past. Ok (record { parts = parts; past = past; future = future })

-- what a text of version 1 says, in which no records stand
abbrev pub first_saved : Data → Result Saved FileFault
first_saved d = first_parts d >>= λ parts. Ok (record { parts = parts; past = []; future = [] })

-- what a text of version 2 says
abbrev pub second_saved : Data → Result Saved FileFault
second_saved d = object_at editor_keys [] d >>= saved_of

-- what a text of a version says
abbrev pub saved_by : ℕ → Data → Result Saved FileFault
saved_by version d = if nat_eq version 1 then first_saved d else if nat_eq version 2 then second_saved d else Err (BadVersion version)

-- the whole walk
abbrev pub saved_in : Data → Result Saved FileFault
saved_in d = version_of d >>= λ version. saved_by version d
