-- A kind that is declared in an interpreter, in the setup or behind it.
use Rattle.std.specs.Prelude.{ℕ, List, Ok, Err}
use Rattle.scene_kinds.specs.declared.shape.Shape.{Shape}
use Rattle.scene_kinds.specs.Answers.{Outcome}
use Rattle.scene_kinds.specs.Schema.{Kinds, with_kind}
use Rattle.scene_model.specs.World.{World}
use Rattle.scene_world.specs.FurtherKind.{declare}
use Rattle.scene_undo.specs.FurtherKind.{with_kind_now}
use Rattle.scene_undo.specs.Editor.{EditorState}
use Rattle.scene_session.specs.FurtherKind.{declare_owner}
use Rattle.scene_session.specs.Owner.{OwnerState, machine_at}
use Rattle.scene_interpreter.specs.Interpreter.{Interpreter, Playing, Setting}
use Rattle.scene_interpreter.specs.Play.{Base, Declared, Loaded, PlayState, SetupState, with_base}

-- ---- in the setup

-- the kinds with the further one, or the refusal
abbrev pub kinds_declared : ℕ → Outcome ℕ Kinds → Outcome ℕ Base
kinds_declared limit (Ok p) = Ok (p.0, Declared p.1 limit)
kinds_declared limit (Err r) = Err r

-- the loaded editor with it
abbrev pub loaded_declared : List ℕ → Shape → EditorState → Outcome ℕ World → Outcome ℕ Base
loaded_declared name shape e (Ok p) = Ok (p.0, Loaded (with_kind_now name shape e))
loaded_declared name shape e (Err r) = Err r

-- what the run begins with has it: the kinds so far, or the scene that was loaded last
abbrev pub declare_base : List ℕ → Shape → Base → Outcome ℕ Base
declare_base name shape (Declared kinds limit) = kinds_declared limit (with_kind kinds name shape)
declare_base name shape (Loaded e) = loaded_declared name shape e (declare e.world name shape)

-- and so the setup
abbrev pub set_declared : SetupState → Outcome ℕ Base → Outcome ℕ Interpreter
set_declared s (Ok p) = Ok (p.0, Setting (with_base s p.1))
set_declared s (Err r) = Err r

-- ---- behind the setup

-- the state with the owner that has it, whose world's kinds are those of the lines to come; cursor, open frame and
-- phases stay
abbrev pub play_declared : PlayState → Outcome ℕ OwnerState → Outcome ℕ PlayState
play_declared s (Ok p) = Ok (p.0, record s { owner = p.1; schema = (machine_at p.1).now.schema })
play_declared s (Err r) = Err r

-- the owner declares it
abbrev pub declare_state : List ℕ → Shape → PlayState → Outcome ℕ PlayState
declare_state name shape s = play_declared s (declare_owner name shape s.owner)

-- and so the interpreter
abbrev pub playing_declared : Outcome ℕ PlayState → Outcome ℕ Interpreter
playing_declared (Ok p) = Ok (p.0, Playing p.1)
playing_declared (Err r) = Err r

-- ---- in either

-- a declaration: the kind's number, and the interpreter with it
abbrev pub declare_in : List ℕ → Shape → Interpreter → Outcome ℕ Interpreter
declare_in name shape (Setting s) = set_declared s (declare_base name shape s.base)
declare_in name shape (Playing s) = playing_declared (declare_state name shape s)
