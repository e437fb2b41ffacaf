-- How the one text of a whole number begins.
use Rattle.std.specs.Prelude.{◌≡◌, ◌≢◌, ℕ, List, length, slice_index}

-- with no + (43), with a zero (48) only where that is all of it, and with none after a - (45)
pub record BeginsWhole (bs : List ℕ) : Type 0 where
  pub no_plus : slice_index bs 0 ≢ 43
  pub lone_zero : slice_index bs 0 ≡ 48 → length bs ≡ 1
  pub no_minus_zero : slice_index bs 0 ≡ 45 → slice_index bs 1 ≢ 48
