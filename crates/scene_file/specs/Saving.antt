-- What saves answer (docs/SCENE_FILES.md, "Writing").
use Rattle.std.specs.Prelude.{ℕ, List, Result, Ok, Err, nat_le, length, reverse, if◌then◌else◌}
use Rattle.scene_model.specs.World.{World}
use Rattle.scene_journal.specs.Records.{Record}
use Rattle.scene_undo.specs.Editor.{EditorState}
use Rattle.scene_streams.specs.Limits.{most_bytes}
use Rattle.scene_json_forms.specs.declared.fault.FileFault.{FileFault}
use Rattle.scene_json_forms.specs.declared.fault.FileFault.TheVariants.{TooLong}
use Rattle.scene_file.specs.Text.{saved}
use Rattle.scene_file.specs.EditorText.{editor_saved}

-- a text, unless it has more bytes than may be read again
abbrev pub if_short : List ℕ → Result (List ℕ) FileFault
if_short text = if nat_le (length text) most_bytes then Ok text else Err TooLong

-- the text of a world with its newline
abbrev pub save_of : World → Result (List ℕ) FileFault
save_of w = if_short (saved w)

-- the text of an editor with its newline
abbrev pub saved_editor : EditorState → List ℕ
saved_editor e = editor_saved e.world (reverse e.past) e.future

-- the text of a world and of its records, with its newline: the past has the oldest first, the future the next one
-- first
abbrev pub save_editor_of : World → (past future : List Record) → Result (List ℕ) FileFault
save_editor_of w past future = if_short (editor_saved w past future)
