-- What the text of a world and the walk say of each other.
use Rattle.std.specs.Prelude.{◌≡◌, ℕ, List, Some, Ok}
use Rattle.serde_json.specs.Read.{read}
use Rattle.scene_model.specs.World.{World}
use Rattle.scene_model.specs.Valid.{IsValid}
use Rattle.scene_file.specs.Text.{world_text}
use Rattle.scene_file.specs.Scene.{loaded, world_in}

-- the text of a valid world is read as that world
abbrev pub WorldsAreReadAgain : Type 0
WorldsAreReadAgain = (w : World) → IsValid w → world_in (world_text w) ≡ Ok w

-- equal texts come from equal worlds
abbrev pub TextsTellWorldsApart : Type 0
TextsTellWorldsApart = (v w : World) → IsValid v → IsValid w → world_text v ≡ world_text w → v ≡ w

-- bytes that are read as a world are JSON, of which the value is that world's own
abbrev pub OnlyTextsAreRead : Type 0
OnlyTextsAreRead = (bytes : List ℕ) (w : World) → loaded bytes ≡ Ok w → read bytes ≡ Some (world_text w)
