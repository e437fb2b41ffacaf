-- What was printed of ticks, and is kept. How a world prints doesn't rest on these words.
use Rattle.std.specs.Prelude.{ℕ, List, Option, IfSome, ◌≡◌}
use Rattle.scene_print.specs.Printed.{ticks_text}

-- the text of ticks, where there are some
abbrev pub AreTicks : Option (ℕ × ℕ) → List ℕ → Type 0
AreTicks kept text = IfSome kept (λ ticks. text ≡ ticks_text ticks.0 ticks.1)
