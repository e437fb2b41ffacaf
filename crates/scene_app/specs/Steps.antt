-- What the bodies below a run have done when they end. Nothing that a run promises is said with these words.
use Rattle.std.specs.Prelude.{◌≡◌, ℕ, ◌+◌, List, [], ◌∷◌, ◌++◌, length, nat_lt, if◌then◌else◌}
use Rattle.scene_interpreter.specs.Interpreter.{Interpreter, LineReply}
use Rattle.scene_interpreter.specs.declared.bad_line_report.BadLineReport.{BadLineReport}
use Rattle.scene_interpreter.specs.Printed.{reports_at}
use Rattle.scene_app.specs.Reports.{Tally}

-- a tally with one more
abbrev pub noted_one : Tally → BadLineReport → Tally
noted_one t r = record { count = t.count + 1; first = if nat_lt (length t.first) 10 then t.first ++ r ∷ [] else t.first }

-- a tally with more, one after another
abbrev pub noted : Tally → List BadLineReport → Tally
noted t [] = t
noted t (r ∷ rs) = noted (noted_one t r) rs

-- a body that plays a line added its text, noted it where it is bad, and left its interpreter
abbrev pub LinePlayed : (old new : List ℕ) → (before after : Tally) → Interpreter → ℕ → LineReply → Type 0
LinePlayed old new before after interpreter number r = (new ≡ old ++ r.text) × (after ≡ noted before (reports_at number r.bad)) × (interpreter ≡ r.interpreter)
