-- A kind that is declared in an editor: no frame, but a change of each world of its machine.
use Rattle.std.specs.Prelude.{ℕ, List, map, Ok, Err}
use Rattle.scene_kinds.specs.declared.shape.Shape.{Shape}
use Rattle.scene_kinds.specs.Answers.{Outcome}
use Rattle.scene_machine.specs.Machine.{Machine}
use Rattle.scene_model.specs.World.{World}
use Rattle.scene_world.specs.FurtherKind.{declare, with_kind_in}
use Rattle.scene_undo.specs.Editor.{EditorState}

-- the editor whose world has a further kind; its records are the same
abbrev pub with_kind_now : List ℕ → Shape → EditorState → EditorState
with_kind_now name shape s = record s { world = with_kind_in name shape s.world }

-- the machine of which each world has it: those of the past, now, and those of the future
abbrev pub with_kind_throughout : List ℕ → Shape → Machine World → Machine World
with_kind_throughout name shape m = record m {
  past = map (with_kind_in name shape) m.past;
  now = with_kind_in name shape m.now;
  future = map (with_kind_in name shape) m.future;
}

-- the kind is declared in each world, or refused as the world now refuses it
abbrev pub declared_throughout : List ℕ → Shape → Machine World → Outcome ℕ World → Outcome ℕ (Machine World)
declared_throughout name shape m (Ok p) = Ok (p.0, with_kind_throughout name shape m)
declared_throughout name shape m (Err r) = Err r

-- a declaration: the kind's number, and the machine with it
abbrev pub declare_throughout : List ℕ → Shape → Machine World → Outcome ℕ (Machine World)
declare_throughout name shape m = declared_throughout name shape m (declare m.now name shape)
