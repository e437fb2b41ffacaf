-- An editor as its contracts see it, and the machine of saved worlds that it is.
use Rattle.std.specs.Prelude.{◌≡◌, ℕ, List, [], ◌∷◌, take, Result, Ok, Err}
use Rattle.std.specs.Global.{Vec}
use Rattle.scene_kinds.specs.declared.entity.Entity.{Entity}
use Rattle.scene_kinds.specs.declared.refusal.Refusal.{Refusal}
use Rattle.scene_model.specs.World.{World}
use Rattle.scene_machine.specs.Machine.{Machine}
use Rattle.scene_kinds.specs.Answers.{Outcome}
use Rattle.scene_world.specs.Stage.{Staged}
use Rattle.scene_deltas.specs.declared.delta.Delta.{Delta}
use Rattle.scene_journal.specs.Records.{Record, raised, redone, undone}
use Rattle.scene_undo.specs.declared.made.Made.{Made}

-- the world now, the records of the frames before it, the newest first, those of the frames that were undone, the next
-- one first, how many undos there were, and of how many frames a record is kept
pub record EditorState : Type 0 where
  pub world : World
  pub past : List Record
  pub future : List Record
  pub rewinds : ℕ
  pub depth : ℕ

-- an editor of a world that has no past and no future
abbrev pub new_editor : World → ℕ → EditorState
new_editor w depth = record { world = w; past = []; future = []; rewinds = 0; depth = depth }

-- the editor with another depth, which keeps the newest records
abbrev pub at_depth : ℕ → EditorState → EditorState
at_depth depth s = record s { past = take depth s.past; depth = depth }

-- the editor with another count of undos
abbrev pub with_rewinds : ℕ → EditorState → EditorState
with_rewinds rewinds s = record s { rewinds = rewinds }

-- the worlds that records lead to, one after another
abbrev pub worlds_along : (Record → World → World) → List Record → World → List World
worlds_along step [] w = []
worlds_along step (r ∷ rs) w = step r w ∷ worlds_along step rs (step r w)

-- the machine: each world of its past is what undoing the records leads to, and each of its future what redoing does
abbrev pub machine_of : EditorState → Machine World
machine_of s = record {
  past = worlds_along undone s.past s.world;
  now = s.world;
  future = worlds_along redone s.future s.world;
  rewinds = s.rewinds;
  depth = s.depth;
}

-- the entities that a frame spawned, or its refusal
abbrev pub entities_of : Result Made Refusal → Result (List Entity) Refusal
entities_of (Ok made) = Ok made.entities.items
entities_of (Err r) = Err r

-- the same where they are listed once
abbrev pub items_of : Result (Vec Entity) Refusal → Result (List Entity) Refusal
items_of (Ok entities) = Ok entities.items
items_of (Err r) = Err r

-- a record tells what was noted where a frame was played on the world with its tick raised, and came to these entities
-- and this world
pub record IsRecordOf (plays : Staged Delta → Outcome (List Entity) (Staged Delta)) (w v : World) (es : List Entity) (r : Record) : Type 0 where
  pub tick : r.tick_before ≡ w.tick
  pub noted : plays (record { world = raised w; notes = [] }) ≡ Ok (es, record { world = v; notes = r.deltas })
