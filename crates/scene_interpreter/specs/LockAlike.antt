-- Two interpreters of which contracts see the same, each over an owner of its own.
use Rattle.std.specs.Prelude.{◌≡◌, ℕ, List}
use Rattle.scene_interpreter.specs.declared.answer.LineAnswer.{LineAnswer}
use Rattle.scene_interpreter.specs.Answer.{said_of}
use Rattle.scene_interpreter.specs.Interpreter.{Interpreter, Tells, interpreter_kinds, interpreter_reply}
use Rattle.scene_interpreter.specs.Said.{bad_in, said_text}

-- what they answer to a line has the same meaning and the same text, and is bad for the same reason, and behind it
-- contracts see the same of them again
abbrev pub AnswersAlike : (p q : Interpreter) → List ℕ → Type 0
AnswersAlike p q bytes = (a b : LineAnswer) (after other : Interpreter)
    → Tells a after (interpreter_reply p bytes) → Tells b other (interpreter_reply q bytes)
    → (said_of a ≡ said_of b) × (said_text (interpreter_kinds after) (said_of a) ≡ said_text (interpreter_kinds other) (said_of b))
    × (bad_in (said_of a) ≡ bad_in (said_of b)) × (after ≡ other)
