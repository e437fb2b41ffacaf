-- What the text of records and the walk say of each other.
use Rattle.std.specs.Prelude.{◌≡◌, ℕ, List, Some, Ok}
use Rattle.std.specs.List.{AllByRecursion}
use Rattle.serde_json.specs.Data.{Data}
use Rattle.serde_json.specs.Read.{read}
use Rattle.scene_kinds.specs.Schema.{Kinds}
use Rattle.scene_journal.specs.Records.{Record}
use Rattle.scene_file_records.specs.Text.{records_text}
use Rattle.scene_file_records.specs.Walk.{records_at}
use Rattle.scene_file_records.specs.Writable.{IsWritable}

-- the text of records that can be written is read as those records, wherever it stands
abbrev pub RecordsAreReadAgain : Type 0
RecordsAreReadAgain = (schema : Kinds) (rs : List Record) → AllByRecursion (IsWritable schema) rs → (path : List ℕ)
    → records_at schema path (records_text rs) ≡ Ok rs

-- bytes that are read as records are JSON, of which the value is those records' own
abbrev pub OnlyTextsAreRead : Type 0
OnlyTextsAreRead = (schema : Kinds) (path bytes : List ℕ) (d : Data) (rs : List Record) → read bytes ≡ Some d → records_at schema path d ≡ Ok rs
    → d ≡ records_text rs
