-- How the one text of a number begins.
use Rattle.std.specs.Prelude.{◌≡◌, ◌≢◌, ◌<◌, ℕ, List, length, slice_index}

-- not empty, with no sign (43 is +), and with a zero (48) only where that is all of it
abbrev pub BeginsPlainly : List ℕ → Type 0
BeginsPlainly bs = (0 < length bs) × (slice_index bs 0 ≢ 43) × (slice_index bs 0 ≡ 48 → length bs ≡ 1)
