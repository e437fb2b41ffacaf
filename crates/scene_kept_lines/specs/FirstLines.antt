-- The first lines of a text.
use Rattle.std.specs.Prelude.{◌≡◌, ◌≤◌, ⊤, ℕ, List, ◌++◌, drop, length, take}
use Rattle.std.specs.Str.Lines.{lines}
use Rattle.scene_kept_lines.specs.declared.first_lines.LinesEnd.{LinesEnd}
use Rattle.scene_kept_lines.specs.declared.first_lines.LinesEnd.TheVariants.{At, Beyond}

-- so many bytes of a text are its first lines, whole ones, and the lines behind them are the others
pub record IsCut (text : List ℕ) (n : ℕ) : Type 0 where
  pub within : n ≤ length text
  pub whole : lines text ≡ lines (take n text) ++ lines (drop n text)

-- lines end there, or nowhere
abbrev pub Ends : List ℕ → LinesEnd → Type 0
Ends text (At n) = IsCut text n
Ends text (Beyond entries) = ⊤
