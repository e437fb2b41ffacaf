-- What the calls of C do.
use Rattle.std.specs.Prelude.{◌≡◌, ◌≢◌, ◌⊎◌, ℕ, Bool, true, false, if◌then◌else◌, List, [], ◌++◌, ◌∷◌, Option, Some, None, is_some, Result, Ok, Err, IfOk, IfErr, MatchOption, slice_get, string_bytes}
use Rattle.scene_kinds.specs.declared.cell.Cell.{Cell}
use Rattle.scene_kinds.specs.declared.entity.Entity.{Entity}
use Rattle.scene_kinds.specs.declared.refusal.Refusal.{Refusal}
use Rattle.scene_kinds.specs.declared.value.Value.{Value}
use Rattle.scene_commands.specs.declared.command.Command.TheVariants.{Spawn}
use Rattle.scene_model.specs.World.{component_of}
use Rattle.scene_pass.specs.declared.cell_name.CellName.{CellName}
use Rattle.scene_session.specs.Calls.{Refused}
use Rattle.scene_script.specs.declared.script_line.Line.{Line}
use Rattle.scene_script.specs.declared.script_line.Line.TheVariants.{Do, Load}
use Rattle.scene_interpreter.specs.declared.answer.LineAnswer.TheVariants as code
use Rattle.scene_interpreter.specs.declared.halt.Halt.{Halt}
use Rattle.scene_interpreter.specs.declared.halt.Halt.TheVariants.{Before, Begun, After, Lost}
use Rattle.scene_interpreter.specs.Answer.{said_of}
use Rattle.scene_interpreter.specs.Changes.{frame_is_open}
use Rattle.scene_interpreter.specs.Interpreter.{Interpreter, LineReply, Tells, begun, halted, interpreter_kinds, interpreter_of, interpreter_said, without_frame}
use Rattle.scene_interpreter.specs.JsonAnswer.{json_text}
use Rattle.scene_interpreter.specs.Said.{Said, Nothing, Called, Fault, Bad, bad_in, refused}
use Rattle.scene_c.specs.Arguments.{shown_cell}
use Rattle.scene_c.specs.HeldScene.{StaysShared, seen}
use Rattle.scene_c.specs.OpenScene.{HasHalted, KeepsAnswer, fresh_interpreter, made_in, named_in, numbers_of, refusal_in, text_in, world_of}
use Rattle.scene_c.specs.declared.held_scene.HeldScene.{HeldScene}
use Rattle.scene_c.specs.declared.held_scene.HeldScene.TheVariants.{Alone, Shared}
use Rattle.scene_c.specs.declared.open_scene.OpenScene.{OpenScene}
use Rattle.scene_c.specs.declared.value.SceneCell.{SceneCell}

-- a scene before its first line
abbrev pub IsFresh : OpenScene → Type 0
IsFresh new =
    (interpreter_of new.interpreter ≡ fresh_interpreter) × (new.answer ≡ code.Nothing)
    × (string_bytes new.text ≡ []) × (new.cells.items ≡ [])

-- what a code says of the handle that an opening made: such a scene, or null where no memory was found
abbrev pub Opens : Option HeldScene → ℕ → Type 0
Opens None code = code ≡ 1
Opens (Some (Alone new)) code = (code ≡ 0) × IsFresh new
Opens (Some (Shared new)) code = ⊥

-- ---- codes

-- the code of what an answer means: done or answered, refused, or no such call here
abbrev pub said_code : Said → ℕ
said_code (Called (Refused r)) = 3
said_code (Fault f) = 3
said_code (Bad reason) = 4
said_code said = 0

-- the code of what want of memory left
abbrev pub halt_code : Halt → ℕ
halt_code Before = 1
halt_code Begun = 1
halt_code After = 5
halt_code Lost = 6

-- the code of a call that was answered, by what the answer means, or was halted
abbrev pub code_of : Result (Unit {0}) Halt → Said → ℕ
code_of (Ok _) said = said_code said
code_of (Err h) said = halt_code h

-- ---- calls

-- A call was played: its answer is that of the reply, of which the code follows, or no memory was found
pub record Played (old new : OpenScene) (r : LineReply) (text : List ℕ) (code : ℕ) : Type 0 where
  pub came : Result (Unit {0}) Halt
  pub coded : code ≡ code_of came r.said
  pub answered : IfOk came (λ _. Tells new.answer (interpreter_of new.interpreter) r × (string_bytes new.text ≡ text))
  pub halted : IfErr came (λ h. HasHalted h old new r)

-- on the scene that a handle holds; on null it does nothing
abbrev pub Plays : (Interpreter → LineReply) → (LineReply → List ℕ) → Option HeldScene → Option HeldScene → ℕ → Type 0
Plays reply text None None code = code ≡ 2
Plays reply text (Some (Alone old)) (Some (Alone new)) code =
    Played old new (reply (interpreter_of old.interpreter)) (text (reply (interpreter_of old.interpreter))) code
    × (new.cells.items ≡ old.cells.items)
Plays reply text (Some (Shared old)) new code = StaysShared (Shared old) new code
Plays reply text old new code = ⊥

-- a line as a value
abbrev pub says : Line → Interpreter → LineReply
says line p = interpreter_said p (Ok line)

-- no text is asked for
abbrev pub untold : LineReply → List ℕ
untold r = []

-- a line without a text: so it isn't done but untold
abbrev pub Does : Line → Option HeldScene → Option HeldScene → ℕ → Type 0
Does line old new code = Plays (says line) untold old new code × (code ≢ 5)

-- the line that the arguments name; where they name none, nothing was done
abbrev pub Asks : Option Line → Option HeldScene → Option HeldScene → ℕ → Type 0
Asks None old new code = (new ≡ old) × (code ≡ 4)
Asks (Some line) old new code = Does line old new code

-- a spawn with the components that were given for it, after which none are given for the next one
abbrev pub Spawns : Option HeldScene → Option HeldScene → ℕ → Type 0
Spawns None None code = code ≡ 2
Spawns (Some (Alone old)) (Some (Alone new)) code =
    Played old new (says (Do (Spawn old.cells.items)) (interpreter_of old.interpreter)) [] code × (new.cells.items ≡ []) × (code ≢ 5)
Spawns (Some (Shared old)) new code = StaysShared (Shared old) new code
Spawns old new code = ⊥

-- a component more is given for the next spawn, or no memory was found for it
abbrev pub GivesMore : ℕ × Value → OpenScene → OpenScene → ℕ → Type 0
GivesMore c old new code = (KeepsAnswer old new × (interpreter_of new.interpreter ≡ interpreter_of old.interpreter))
    × (((code ≡ 0) × (new.cells.items ≡ old.cells.items ++ c ∷ [])) ⊎ ((code ≡ 1) × (new.cells.items ≡ old.cells.items)))

-- on the scene that a handle holds; where the arguments name no component, nothing was done
abbrev pub Gives : Option (ℕ × Value) → Option HeldScene → Option HeldScene → ℕ → Type 0
Gives None old new code = (new ≡ old) × (code ≡ 4)
Gives (Some c) None None code = code ≡ 2
Gives (Some c) (Some (Alone old)) (Some (Alone new)) code = GivesMore c old new code
Gives (Some c) (Some (Shared old)) new code = StaysShared (Shared old) new code
Gives (Some c) old new code = ⊥

-- ---- calls with a text among their arguments, of which a copy is made where they have a meaning

-- no memory was found for the copy, and nothing was done
abbrev pub HasNoRoom : Option HeldScene → Option HeldScene → ℕ → Type 0
HasNoRoom old new code = (code ≡ 1) × (new ≡ old)

-- a scene text is loaded; bytes that are no text are not
abbrev pub Loads : Option (List ℕ) → Option HeldScene → Option HeldScene → ℕ → Type 0
Loads None old new code = (new ≡ old) × (code ≡ 4)
Loads (Some text) old new code = HasNoRoom old new code ⊎ Plays (says (Load text)) (λ r. r.text) old new code

-- a component that is a text is given for the next spawn
abbrev pub GivesText : Option (ℕ × Value) → Option HeldScene → Option HeldScene → ℕ → Type 0
GivesText None old new code = (new ≡ old) × (code ≡ 4)
GivesText (Some c) old new code = HasNoRoom old new code ⊎ Gives (Some c) old new code

-- the line of a component that is a text
abbrev pub AsksText : Option Line → Option HeldScene → Option HeldScene → ℕ → Type 0
AsksText None old new code = (new ≡ old) × (code ≡ 4)
AsksText (Some line) old new code = HasNoRoom old new code ⊎ Does line old new code

-- ---- a frame that is dropped, and why a line is bad

-- the open frame is dropped, and nothing else changes; or none is open
abbrev pub DropsFrame : Option HeldScene → Option HeldScene → ℕ → Type 0
DropsFrame None None code = code ≡ 2
DropsFrame (Some (Alone old)) (Some (Alone new)) code = (code ≡ (if frame_is_open (interpreter_of old.interpreter) then 0 else 4))
    × (interpreter_of new.interpreter ≡ without_frame (interpreter_of old.interpreter)) × KeepsAnswer old new
    × (new.cells.items ≡ old.cells.items)
DropsFrame (Some (Shared old)) new code = StaysShared (Shared old) new code
DropsFrame old new code = ⊥

-- by whether the last line was bad: the text is why, or no memory was found for that; or else there is nothing to say,
-- and the text stays
abbrev pub SaysWhy : Bool → OpenScene → OpenScene → ℕ → Type 0
SaysWhy true old new code = (code ≡ 0) ⊎ ((code ≡ 1) × (string_bytes new.text ≡ string_bytes old.text))
SaysWhy false old new code = (code ≡ 4) × (string_bytes new.text ≡ string_bytes old.text)

-- on the scene that a handle holds; but for its text it is as it was
abbrev pub Explains : Option HeldScene → Option HeldScene → ℕ → Type 0
Explains None None code = code ≡ 2
Explains (Some (Alone old)) (Some (Alone new)) code = SaysWhy (is_some (bad_in (said_of old.answer))) old new code
    × (new.answer ≡ old.answer) × (interpreter_of new.interpreter ≡ interpreter_of old.interpreter) × (new.cells.items ≡ old.cells.items)
Explains (Some (Shared old)) new code = StaysShared (Shared old) new code
Explains old new code = ⊥

-- ---- the last answer as JSON

-- a line of JSON of the last answer; of the words by which a line is bad nothing is said
abbrev pub IsJsonOf : OpenScene → List ℕ → Type 0
IsJsonOf d text = (words : List ℕ) × (text ≡ json_text (interpreter_kinds (interpreter_of d.interpreter)) words (said_of d.answer))

-- it is the text of the answer then, or no memory was found for it
abbrev pub SaysJson : OpenScene → OpenScene → ℕ → Type 0
SaysJson old new code =
    ((code ≡ 0) × IsJsonOf old (string_bytes new.text)) ⊎ ((code ≡ 1) × (string_bytes new.text ≡ string_bytes old.text))

-- on the scene that a handle holds; but for its text it is as it was
abbrev pub TellsJson : Option HeldScene → Option HeldScene → ℕ → Type 0
TellsJson None None code = code ≡ 2
TellsJson (Some (Alone old)) (Some (Alone new)) code = SaysJson old new code
    × (new.answer ≡ old.answer) × (interpreter_of new.interpreter ≡ interpreter_of old.interpreter) × (new.cells.items ≡ old.cells.items)
TellsJson (Some (Shared old)) new code = StaysShared (Shared old) new code
TellsJson old new code = ⊥

-- ---- what is read

-- the text of the last answer, and none where nothing is open
abbrev pub text_now : Option HeldScene → List ℕ
text_now None = []
text_now (Some h) = string_bytes (seen h).text

-- an entity that the last frame made, by its place
abbrev pub made_at : Option HeldScene → ℕ → Option Entity
made_at None at = None
made_at (Some h) at = slice_get (made_in (said_of (seen h).answer)) at

-- a cell that the last answer lists, by its place
abbrev pub named_at : Option HeldScene → ℕ → Option CellName
named_at None at = None
named_at (Some h) at = slice_get (named_in (said_of (seen h).answer)) at

-- the refusal that the last answer is
abbrev pub refusal_now : Option HeldScene → Option Refusal
refusal_now None = None
refusal_now (Some h) = refusal_in (said_of (seen h).answer)

-- what was found of a component: it is shown, with the text that it may be; or it is refused, and nothing is shown
abbrev pub Shows : ℕ → Result Cell Refusal → OpenScene → SceneCell → SceneCell → ℕ → Type 0
Shows kind (Ok cell) new before after code = (code ≡ 0) × (after ≡ shown_cell kind (numbers_of cell.value))
    × (string_bytes new.text ≡ text_in cell.value) × (said_of new.answer ≡ Nothing)
Shows kind (Err r) new before after code = (code ≡ 3) × (after ≡ before)
    × (string_bytes new.text ≡ []) × (said_of new.answer ≡ refused r)

-- A component was read, in the world that there is where the setup is over; or no memory was found
pub record WasRead (e : Entity) (kind : ℕ) (old new : OpenScene) (before after : SceneCell) (code : ℕ) : Type 0 where
  pub came : Option Halt
  pub shown : MatchOption came
      (Shows kind (component_of (world_of old) e kind) new before after code
      × (interpreter_of new.interpreter ≡ begun (interpreter_of old.interpreter)))
      (λ h. (h ≢ After) × (code ≡ halt_code h) × (after ≡ before) × KeepsAnswer old new
      × ((next : Interpreter) → interpreter_of new.interpreter ≡ halted h (interpreter_of old.interpreter) next))
  pub cells : new.cells.items ≡ old.cells.items

-- on the scene that a handle holds; a kind that is no number of 8 bits, and null, show nothing
abbrev pub Gets : Entity → Option ℕ → Option HeldScene → Option HeldScene → SceneCell → SceneCell → ℕ → Type 0
Gets e None old new before after code = (new ≡ old) × (after ≡ before) × (code ≡ 4)
Gets e (Some kind) None None before after code = (after ≡ before) × (code ≡ 2)
Gets e (Some kind) (Some (Alone old)) (Some (Alone new)) before after code = WasRead e kind old new before after code
Gets e (Some kind) (Some (Shared old)) new before after code = (after ≡ before) × StaysShared (Shared old) new code
Gets e (Some kind) old new before after code = ⊥
