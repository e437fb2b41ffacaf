-- What lines that were kept have come to, as a line tells it.
use Rattle.std.specs.Prelude.{ℕ, List}
use Rattle.std.specs.Str.Lines.{lines}
use Rattle.scene_interpreter.specs.Interpreter.{Interpreter, interpreter_reply}
use Rattle.scene_shell.specs.Shell.{interpreter_after}

-- the text of the answer to a question behind the lines of a text, played from a first interpreter on
abbrev pub answer_text : Interpreter → (question text : List ℕ) → List ℕ
answer_text first question text = (interpreter_reply (interpreter_after first (lines text)) question).text
