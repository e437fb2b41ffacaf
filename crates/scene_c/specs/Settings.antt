-- Kinds and the depth, by calls.
use Rattle.std.specs.Prelude.{◌≡◌, ◌≢◌, ◌⊎◌, ℕ, List, Option, Some, None, Ok, Err, if◌then◌else◌, nat_eq}
use Rattle.scene_kinds.specs.Answers.{Outcome}
use Rattle.scene_kinds.specs.declared.shape.Shape.{Shape}
use Rattle.scene_interpreter.specs.FurtherKind.{declare_in}
use Rattle.scene_interpreter.specs.Interpreter.{Interpreter, LineReply, interpreter_of}
use Rattle.scene_interpreter.specs.WholeFrame.{at_depth}
use Rattle.scene_answers.specs.Asked.{declare_reply}
use Rattle.scene_c.specs.Calls.{HasNoRoom, Plays, untold}
use Rattle.scene_c.specs.HeldScene.{StaysShared, seen}
use Rattle.scene_c.specs.OpenScene.{KeepsAnswer}
use Rattle.scene_c.specs.declared.held_scene.HeldScene.{HeldScene}
use Rattle.scene_c.specs.declared.held_scene.HeldScene.TheVariants.{Alone, Shared}

-- ---- a kind by its name and its shape

-- what a declaration comes to
abbrev pub declared_by : List ℕ × Shape → Interpreter → Outcome ℕ Interpreter
declared_by k p = declare_in k.0 k.1 p

-- and the reply to it
abbrev pub declare_said : List ℕ × Shape → Interpreter → LineReply
declare_said k p = declare_reply p (declared_by k p)

-- the number that it gives the kind, where it is done
abbrev pub number_in : ℕ → Outcome ℕ Interpreter → ℕ
number_in old (Ok q) = q.0
number_in old (Err r) = old

-- a kind is declared, in the setup or behind it, without a text of the answer; so it isn't done but untold
abbrev pub DeclaresKind : List ℕ × Shape → Option HeldScene → Option HeldScene → ℕ → Type 0
DeclaresKind k old new code = Plays (declare_said k) untold old new code × (code ≢ 5)

-- its number is told, where that was done
abbrev pub TellsKindNumber : List ℕ × Shape → Option HeldScene → ℕ → (old new : ℕ) → Type 0
TellsKindNumber k None code old new = new ≡ old
TellsKindNumber k (Some h) code old new =
    new ≡ (if nat_eq code 0 then number_in old (declared_by k (interpreter_of (seen h).interpreter)) else old)

-- the kind that the arguments name; where they name none, nothing was done, as where no memory was found for its name
abbrev pub Declares : Option (List ℕ × Shape) → Option HeldScene → Option HeldScene → ℕ → Type 0
Declares None old new code = (new ≡ old) × (code ≡ 4)
Declares (Some k) old new code = HasNoRoom old new code ⊎ DeclaresKind k old new code

-- its number
abbrev pub TellsDeclared : Option (List ℕ × Shape) → Option HeldScene → ℕ → (old new : ℕ) → Type 0
TellsDeclared None d code old new = new ≡ old
TellsDeclared (Some k) d code old new = TellsKindNumber k d code old new

-- ---- the depth

-- the depth of the scene that a handle holds is another, and all but what is beyond it stays; a number that is no depth
-- does nothing
abbrev pub SetsDepth : Option ℕ → Option HeldScene → Option HeldScene → ℕ → Type 0
SetsDepth None old new code = (new ≡ old) × (code ≡ 4)
SetsDepth (Some depth) None None code = code ≡ 2
SetsDepth (Some depth) (Some (Alone old)) (Some (Alone new)) code =
    (code ≡ 0) × ((interpreter_of new.interpreter ≡ at_depth depth (interpreter_of old.interpreter))
    × (KeepsAnswer old new × (new.cells.items ≡ old.cells.items)))
SetsDepth (Some depth) (Some (Shared old)) new code = StaysShared (Shared old) new code
SetsDepth depth old new code = ⊥
