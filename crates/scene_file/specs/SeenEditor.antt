-- How the code's parts and records are seen.
use Rattle.scene_validate.specs.Seen.{seen}
use Rattle.scene_file.specs.EditorWalk.{Saved}
use Rattle.scene_file.specs.declared.read_editor.SavedParts.{SavedParts}

-- what the code holds of a text of either version
abbrev pub saved_seen : SavedParts → Saved
saved_seen s = record { parts = seen s.parts; past = s.past.items; future = s.future.items }
