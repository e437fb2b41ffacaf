-- What a clause sees of a `Sink`.
use Rattle.std.specs.Prelude.{Bool}
use Rattle.scene_streams.specs.declared.sink.Sink.{Sink}

-- the writer, as it stands
abbrev pub writer_of : {W : Type 0} → Sink W → W
writer_of s = s.writer

-- whether a call of the writer failed or took no byte
abbrev pub write_failed : {W : Type 0} → Sink W → Bool
write_failed s = s.has_failed
