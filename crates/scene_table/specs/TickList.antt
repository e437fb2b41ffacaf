-- What contracts see of a column's ticks.
use Rattle.std.specs.Prelude.{ℕ, List}

-- the ticks in the order of the rows, and for how many there is memory
pub record TicksState : Type 0 where
  pub items : List ℕ
  pub capacity : ℕ
