-- Values that are copied without memory: all but texts.
use Rattle.std.specs.Prelude.{ℕ, Bool, true, false, List}
use Rattle.std.specs.List.{list_any}
use Rattle.scene_kinds.specs.declared.cell.Cell.{Cell}
use Rattle.scene_kinds.specs.declared.value.Value.{Value}
use Rattle.scene_kinds.specs.declared.value.Value.TheVariants.{Text}

-- a value is a text
abbrev pub is_text : Value → Bool
is_text (Text bytes) = true
is_text v = false

-- the value of some cell of a row is one
abbrev pub has_text : List (ℕ × Cell) → Bool
has_text cells = list_any (λ c. is_text c.1.value) cells
