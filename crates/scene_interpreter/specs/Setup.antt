-- The setup of the code, and what the bodies of its lines have done when they end.
use Rattle.std.specs.Prelude.{◌≡◌, ℕ, [], Option, Some, None, Result, Ok}
use Rattle.scene_script.specs.declared.script_line.Line.{Line}
use Rattle.scene_script.specs.declared.bad_line.BadLine.{BadLine}
use Rattle.scene_interpreter.specs.declared.answer.LineAnswer.{LineAnswer}
use Rattle.scene_interpreter.specs.declared.setup.Setup.{Setup}
use Rattle.scene_interpreter.specs.declared.setup.Base.{Base as Code}
use Rattle.scene_interpreter.specs.declared.setup.Base.TheVariants as code
use Rattle.scene_interpreter.specs.declared.setup_line.SetupAnswer.{SetupAnswer}
use Rattle.scene_interpreter.specs.declared.setup_line.SetupAnswer.TheVariants.{Given, Ends}
use Rattle.scene_interpreter.specs.Answer.{said_of}
use Rattle.scene_interpreter.specs.Play.{Base, SetupState, Declared, Loaded, SetupReply, with_base}

-- what the base of a setup in the code has come to
abbrev pub base_of : Code → Base
base_of (code.Declared kinds limit) = Declared kinds limit
base_of (code.Loaded e) = Loaded e

-- and a setup, whose limit of calls is so many
abbrev pub setup_by : {O L : Type 0} → (L → ℕ) → Setup O L → SetupState
setup_by most s = record { base = base_of s.base; calls = most s.calls; depth = s.depth }

-- the setup that has lost its kinds or its scene
abbrev pub without_base : SetupState → SetupState
without_base s = with_base s (Declared [] 1048576)

-- an answer means what a reply of the setup says, and the setup is the one after it
abbrev pub SetupSays : LineAnswer → SetupState → SetupReply → Type 0
SetupSays answer after r = (said_of answer ≡ r.said) × (after ≡ r.setup)

-- a line that has a reply in the setup was answered so, and a line that has none was handed back, and nothing changed
abbrev pub AnswersSetup : (before after : SetupState) → Result Line BadLine → Option SetupReply → SetupAnswer → Type 0
AnswersSetup before after said (Some r) (Given answer) = SetupSays answer after r
AnswersSetup before after said None (Ends line) = (said ≡ Ok line) × (after ≡ before)
AnswersSetup before after said reply answer = ⊥
