-- The world that a scene text says, or the first fault (docs/SCENE_FILES.md, "Reading").
use Rattle.std.specs.Prelude.{ℕ, List, Option, Some, None, Result, Ok, Err, if◌then◌else◌}
use Rattle.std.specs.Str.{is_utf8}
use Rattle.serde_json.specs.Data.{Data}
use Rattle.serde_json.specs.Read.{read}
use Rattle.scene_model.specs.World.{World}
use Rattle.scene_validate.specs.Parts.{Parts, world_of}
use Rattle.scene_validate.specs.Rules.{first_broken}
use Rattle.scene_json_forms.specs.declared.fault.FileFault.{FileFault}
use Rattle.scene_json_forms.specs.declared.fault.FileFault.TheVariants.{NotJson, BadWorld}
use Rattle.scene_json_forms.specs.Reading.{◌>>=◌}
use Rattle.scene_file.specs.Walk.{parts_in}

-- the world of parts, unless they break a rule
abbrev pub if_unbroken : Option ℕ → Parts → Result World FileFault
if_unbroken None p = Ok (world_of p)
if_unbroken (Some rule) p = Err (BadWorld rule)

-- the world of a JSON value
abbrev pub world_in : Data → Result World FileFault
world_in d = parts_in d >>= λ p. if_unbroken (first_broken p) p

-- a JSON value that was read, or that wasn't
abbrev pub if_json : Option Data → Result Data FileFault
if_json None = Err NotJson
if_json (Some d) = Ok d

-- the JSON value of a text; bytes that aren't UTF-8 are no JSON
abbrev pub json_in : List ℕ → Result Data FileFault
json_in bytes = if is_utf8 bytes then if_json (read bytes) else Err NotJson

-- the world of a text
abbrev pub loaded : List ℕ → Result World FileFault
loaded bytes = json_in bytes >>= world_in
