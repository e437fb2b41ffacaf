-- The bad lines that a run tells: how many there are, and the first ten.
use Rattle.std.specs.Prelude.{ℕ, List, [], length, take}
use Rattle.scene_interpreter.specs.declared.bad_line_report.BadLineReport.{BadLineReport}

-- how many bad lines there are, and the reports of the first ones
pub record Tally : Type 0 where
  pub count : ℕ
  pub first : List BadLineReport

-- the tally of all bad lines
abbrev pub tally : List BadLineReport → Tally
tally reports = record { count = length reports; first = take 10 reports }

-- the tally of a script without a bad line
abbrev pub no_bad_lines : Tally
no_bad_lines = record { count = 0; first = [] }
