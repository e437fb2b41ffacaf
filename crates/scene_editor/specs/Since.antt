-- The two worlds that a list since a cursor tells apart: that of now, and that of an earlier moment of the history.
use Rattle.std.specs.Prelude.{◌≡◌, ℕ, List, [], ◌++◌}
use Rattle.scene_kinds.specs.declared.entity.Entity.{Entity}
use Rattle.scene_model.specs.World.{World}
use Rattle.scene_model.specs.Valid.{IsValid}
use Rattle.scene_machine.specs.Machine.{Machine}
use Rattle.scene_editor.specs.GoesOn.{HasAdded}
use Rattle.scene_undo.specs.declared.cursor.Cursor.{Cursor}
use Rattle.scene_undo.specs.Cursor.{cursor_of}
use Rattle.scene_undo.specs.Editor.{EditorState}
use Rattle.scene_session.specs.declared.entry.Entry.{Entry}
use Rattle.scene_session.specs.State.{StateView, replayed}
use Rattle.scene_session.specs.Queries.{machine_at}

-- an editor of a valid world, as every `World` is, with nothing to undo and nothing to redo
pub record IsNew (e : EditorState) : Type 0 where
  pub valid : IsValid e.world
  pub past : e.past ≡ []
  pub future : e.future ≡ []

-- the machine after the first entries of a state's history
abbrev pub machine_after : StateView → List Entry → Machine World
machine_after s before = (replayed s.opening before).machine

-- the world after them
abbrev pub world_after : StateView → List Entry → World
world_after s before = (machine_after s before).now

-- the world now
abbrev pub world_now : StateView → World
world_now s = (machine_at s).now

-- A moment that a cursor may be of: the history of the state begins with these entries, and the machine after them has
-- the cursor's count of undos and its tick
pub record IsMoment (s : StateView) (before : List Entry) (cursor : Cursor) : Type 0 where
  pub after : List Entry
  pub begins : s.history ≡ before ++ after
  pub taken : cursor ≡ cursor_of (machine_after s before)

-- an entity has no cell of a kind that was added at a tick
abbrev pub HasNoneAdded : World → Entity → ℕ → ℕ → Type 0
HasNoneAdded w e kind tick = HasAdded w e kind tick → ⊥
