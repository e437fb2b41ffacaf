-- What a clause sees of a `Source`.
use Rattle.std.specs.Prelude.{ℕ, Bool}
use Rattle.scene_streams.specs.declared.source.Source.{Source}

-- the reader, as it stands
abbrev pub reader_of : {R : Type 0} → Source R → R
reader_of s = s.reader

-- how many more calls of the reader it makes
abbrev pub turns_left : {R : Type 0} → Source R → ℕ
turns_left s = s.turns

-- whether a call of the reader failed
abbrev pub read_failed : {R : Type 0} → Source R → Bool
read_failed s = s.has_failed
