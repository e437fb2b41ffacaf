-- An interpreter: the lines of a script one at a time.
use Rattle.std.specs.Prelude.{◌≡◌, ◌≢◌, ⊤, ℕ, max, List, [], ◌++◌, Option, Some, None, Result}
use Rattle.scene_kinds.specs.Schema.{Kinds}
use Rattle.scene_session.specs.Owner.{OwnerState}
use Rattle.scene_systems.specs.declared.system_rule.SystemRule.{SystemRule}
use Rattle.scene_script.specs.declared.script_line.Line.{Line}
use Rattle.scene_script.specs.declared.bad_line.BadLine.{BadLine}
use Rattle.scene_script.specs.Script.{line_in}
use Rattle.scene_interpreter.specs.declared.answer.LineAnswer.{LineAnswer}
use Rattle.scene_interpreter.specs.declared.halt.Halt.{Halt}
use Rattle.scene_interpreter.specs.declared.halt.Halt.TheVariants.{Before, Begun, After, Lost}
use Rattle.scene_interpreter.specs.declared.interpreter.Interpreter.{Interpreter as Code}
use Rattle.scene_interpreter.specs.declared.interpreter.Mode.{Mode}
use Rattle.scene_interpreter.specs.declared.interpreter.Mode.TheVariants as code
use Rattle.scene_interpreter.specs.Answer.{said_of}
use Rattle.scene_interpreter.specs.OpenFrame.{Opened}
use Rattle.scene_interpreter.specs.Play.{PlayState, StateReply, SetupReply, SetupState, first_owner, first_setup, first_state, frame_reply, said_reply, setup_kinds, setup_said, state_by, with_frame}
use Rattle.scene_interpreter.specs.Said.{Said, bad_in, said_text}
use Rattle.scene_interpreter.specs.Setup.{setup_by, without_base}

-- what the lines so far have come to: a setup, or what follows it
pub data Interpreter : Type 0 where
  Setting : SetupState → Interpreter
  Playing : PlayState → Interpreter

-- the mode of the code, over an owner that is seen so, with a limit of calls that is so many
abbrev pub mode_by : {O L : Type 0} → (O → OwnerState) → (L → ℕ) → Mode O L → Interpreter
mode_by seen most (code.Setting s) = Setting (setup_by most s)
mode_by seen most (code.Playing s) = Playing (state_by seen s)

-- an interpreter, as contracts see it, whichever owner it is over
abbrev pub reached : {O L : Type 0} → (O → OwnerState) → (L → ℕ) → Code O L → Interpreter
reached seen most p = mode_by seen most p.mode

-- one of the code over a lone owner
abbrev pub LoneCode : Type 0
LoneCode = Code OwnerState ℕ

-- and as contracts see it; 0 calls are taken as 1
abbrev pub interpreter_of : LoneCode → Interpreter
interpreter_of = reached (λ owner. owner) (λ limit. max limit 1)

-- the interpreter before the first line of a run
abbrev pub first_interpreter : Interpreter
first_interpreter = Setting first_setup

-- one before its first line of which so many frames can be undone, and which may make so many calls; 0 is taken as 1
abbrev pub lone_interpreter : (depth calls : ℕ) → Interpreter
lone_interpreter depth calls = Setting (record first_setup { calls = max calls 1; depth = depth })

-- the kinds so far
abbrev pub interpreter_kinds : Interpreter → Kinds
interpreter_kinds (Setting s) = setup_kinds s
interpreter_kinds (Playing s) = s.schema

-- the owner that the lines so far leave
abbrev pub owner_of : Interpreter → OwnerState
owner_of (Setting s) = first_owner s
owner_of (Playing s) = s.owner

-- the systems that the lines so far have given, phase by phase; in the setup there are none
abbrev pub systems_of : Interpreter → List (List SystemRule)
systems_of (Setting s) = []
systems_of (Playing s) = s.phases

-- the interpreter without its open frame, if one is open
abbrev pub without_frame : Interpreter → Interpreter
without_frame (Setting s) = Setting s
without_frame (Playing s) = Playing (with_frame s None)

-- the setup isn't over
abbrev pub IsSetting : Interpreter → Type 0
IsSetting (Setting s) = ⊤
IsSetting (Playing s) = ⊥

-- what a line is answered with, the text of it, why the line is bad where it is, and the interpreter after it
pub record LineReply : Type 0 where
  pub said : Said
  pub text : List ℕ
  pub bad : Option BadLine
  pub interpreter : Interpreter

-- the reply of a meaning, where these are the kinds: the rest follows from it
abbrev pub reply_of : Kinds → Said → Interpreter → LineReply
reply_of kinds said interpreter = record { said = said; text = said_text kinds said; bad = bad_in said; interpreter = interpreter }

-- the reply to a line after the setup
abbrev pub played : StateReply → LineReply
played r = reply_of r.state.schema r.said (Playing r.state)

-- the reply of the setup, or else of what follows it, which the line begins
abbrev pub set_or_begun : SetupState → Result Line BadLine → Option SetupReply → LineReply
set_or_begun s said (Some r) = reply_of (setup_kinds r.setup) r.said (Setting r.setup)
set_or_begun s said None = played (said_reply (first_state s) said)

-- the reply to what a line says, or why it is bad
abbrev pub interpreter_said : Interpreter → Result Line BadLine → LineReply
interpreter_said (Setting s) said = set_or_begun s said (setup_said s said)
interpreter_said (Playing s) said = played (said_reply s said)

-- the reply to a line, by its bytes
abbrev pub interpreter_reply : Interpreter → List ℕ → LineReply
interpreter_reply p bytes = interpreter_said p (line_in (interpreter_kinds p) bytes)

-- a text was added, and it, why the line is bad, and the interpreter are those of a reply
abbrev pub IsAnswered : (old new : List ℕ) → Interpreter → Option BadLine → LineReply → Type 0
IsAnswered old new after bad r = (new ≡ old ++ r.text) × (bad ≡ r.bad) × (after ≡ r.interpreter)

-- an answer means what a reply says, the interpreter is the one after it, and so are the text and why the line is bad
abbrev pub Tells : LineAnswer → Interpreter → LineReply → Type 0
Tells answer after r = (said_of answer ≡ r.said) × (after ≡ r.interpreter)
    × (said_text (interpreter_kinds after) (said_of answer) ≡ r.text) × (bad_in (said_of answer) ≡ r.bad)

-- the interpreter whose setup is over, before the line that ended it
abbrev pub begun : Interpreter → Interpreter
begun (Setting s) = Playing (first_state s)
begun (Playing s) = Playing s

-- the interpreter whose setup has lost what it had
abbrev pub lost : Interpreter → Interpreter
lost (Setting s) = Setting (without_base s)
lost (Playing s) = Playing s

-- what want of memory leaves of an interpreter, which would have come to another
abbrev pub halted : Halt → Interpreter → Interpreter → Interpreter
halted Before old new = old
halted Begun old new = begun old
halted After old new = new
halted Lost old new = lost old

-- a line in an open frame was answered, whatever else the state has: a text was added, and the frame, and why the line is
-- bad, are those of its reply
abbrev pub IsAnsweredWithin : (old new : List ℕ) → (before after : Opened) → Option BadLine → Line → Type 0
IsAnsweredWithin old new before after bad line =
    (s : PlayState) → IsAnswered old new (Playing (with_frame s (Some after))) bad (played (frame_reply s before line))

-- what want of memory leaves of an open frame, whatever else the state has
abbrev pub IsHaltedWithin : Halt → (before after : Opened) → Line → Type 0
IsHaltedWithin h before after line =
    (s : PlayState) → Playing (with_frame s (Some after)) ≡ halted h (Playing (with_frame s (Some before))) (Playing (frame_reply s before line).state)

-- and of a setup
abbrev pub HaltsSetup : Halt → SetupState → SetupState → Type 0
HaltsSetup h old new = (h ≢ After) × ((next : Interpreter) → Setting new ≡ halted h (Setting old) next)
