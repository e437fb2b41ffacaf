-- What the texts of worlds and editors, and the bytes of a save, say of what is read again.
use Rattle.std.specs.Prelude.{◌≡◌, ℕ, List, reverse, Ok}
use Rattle.scene_model.specs.World.{World}
use Rattle.scene_model.specs.Valid.{IsValid}
use Rattle.scene_journal.specs.Records.{Record}
use Rattle.scene_journal.specs.FirstFaults.{PastFits, FutureFits}
use Rattle.scene_undo.specs.Editor.{new_editor}
use Rattle.scene_file.specs.Text.{world_text, saved}
use Rattle.scene_file.specs.EditorText.{editor_text, editor_saved}
use Rattle.scene_file.specs.Scene.{loaded}
use Rattle.scene_file.specs.EditorScene.{editor_of, editor_in, loaded_editor}

-- ---- worlds

-- the bytes that are saved of a valid world are loaded as that world
abbrev pub SavedWorldsAreLoaded : Type 0
SavedWorldsAreLoaded = (w : World) → IsValid w → loaded (saved w) ≡ Ok w

-- equal bytes come from equal worlds
abbrev pub SavesTellWorldsApart : Type 0
SavesTellWorldsApart = (v w : World) → IsValid v → IsValid w → saved v ≡ saved w → v ≡ w

-- ---- editors

-- a valid world with a past, the oldest record first, and a future, the next one first: each record fits at its turn
pub record FitTogether (w : World) (past future : List Record) : Type 0 where
  pub valid : IsValid w
  pub back : PastFits (reverse past) w
  pub on : FutureFits future w

-- the text of such is read as the editor of all this, which keeps the newest records of the past
abbrev pub EditorsAreReadAgain : Type 0
EditorsAreReadAgain = (depth : ℕ) (w : World) (past future : List Record) → FitTogether w past future
    → editor_in depth (editor_text w past future) ≡ Ok (editor_of depth past future w)

-- the text of a valid world alone is read as the editor of that world that has done nothing
abbrev pub WorldsAreReadAsEditors : Type 0
WorldsAreReadAsEditors = (depth : ℕ) (w : World) → IsValid w → editor_in depth (world_text w) ≡ Ok (new_editor w depth)

-- and so are the bytes that are saved of it
abbrev pub SavedWorldsAreEditors : Type 0
SavedWorldsAreEditors = (depth : ℕ) (w : World) → IsValid w → loaded_editor depth (saved w) ≡ Ok (new_editor w depth)

-- the bytes that are saved of such are loaded as that editor
abbrev pub SavedEditorsAreLoaded : Type 0
SavedEditorsAreLoaded = (depth : ℕ) (w : World) (past future : List Record) → FitTogether w past future
    → loaded_editor depth (editor_saved w past future) ≡ Ok (editor_of depth past future w)

-- equal texts come from equal worlds with equal records
abbrev pub TextsTellEditorsApart : Type 0
TextsTellEditorsApart = (v w : World) (past future older later : List Record) → FitTogether v past future → FitTogether w older later
    → editor_text v past future ≡ editor_text w older later → (v ≡ w) × (past ≡ older) × (future ≡ later)

-- and so do equal bytes
abbrev pub SavesTellEditorsApart : Type 0
SavesTellEditorsApart = (v w : World) (past future older later : List Record) → FitTogether v past future → FitTogether w older later
    → editor_saved v past future ≡ editor_saved w older later → (v ≡ w) × (past ≡ older) × (future ≡ later)
