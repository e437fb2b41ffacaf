-- What a text that is read as an editor says (docs/SCENE_FILES.md, "Reading").
use Rattle.std.specs.Prelude.{◌≡◌, ◌⊎◌, ℕ, List, [], Some, Ok, reverse, take}
use Rattle.serde_json.specs.Read.{read}
use Rattle.scene_journal.specs.Records.{Record}
use Rattle.scene_undo.specs.Editor.{EditorState}
use Rattle.scene_file.specs.Text.{world_text}
use Rattle.scene_file.specs.EditorText.{editor_text}
use Rattle.scene_file.specs.EditorScene.{loaded_editor}

-- the bytes are a text of version 1: their value is the world's own, and the editor has no records
pub record IsWorldText (bytes : List ℕ) (e : EditorState) : Type 0 where
  pub value : read bytes ≡ Some (world_text e.world)
  pub no_past : e.past ≡ []
  pub no_future : e.future ≡ []

-- the bytes are a text of version 2: their value is that of the world, of a past of which the editor keeps the newest
-- records, and of the future, of which it keeps all
pub record IsEditorText (bytes : List ℕ) (e : EditorState) : Type 0 where
  pub past : List Record
  pub value : read bytes ≡ Some (editor_text e.world past e.future)
  pub kept : e.past ≡ take e.depth (reverse past)

-- they are a text of one of both
abbrev pub IsTextOf : List ℕ → EditorState → Type 0
IsTextOf bytes e = IsWorldText bytes e ⊎ IsEditorText bytes e

-- bytes that are read as an editor are JSON, of which the value is that editor's own
abbrev pub OnlyTextsOfEditorsAreRead : Type 0
OnlyTextsOfEditorsAreRead = (depth : ℕ) (bytes : List ℕ) (e : EditorState) → loaded_editor depth bytes ≡ Ok e → IsTextOf bytes e
