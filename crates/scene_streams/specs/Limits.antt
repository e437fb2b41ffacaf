-- How much of a reader is read.
use Rattle.std.specs.Prelude.{ℕ}

-- the most bytes, which is 64 MiB
abbrev pub most_bytes : ℕ
most_bytes = 67108864

-- the most calls of the reader
abbrev pub most_turns : ℕ
most_turns = 1048576
