-- What one turn of a reader does to the bytes that it has left.
use Rattle.std.specs.Prelude.{ℕ, ◌<◌, ◌≤◌, List, [], length, take, Option, Result, Ok, Err}
use Rattle.std.specs.Io.KnownBytes.{Consumes, IsAtEnd, Keeps}
use Rattle.scene_streams.specs.declared.source.ReadError.{ReadError}
use Rattle.scene_streams.specs.declared.source.ReadError.TheVariants.{Fault, TooLong, NoMemory}
use Rattle.scene_streams.specs.declared.source.Turn.{Turn}
use Rattle.scene_streams.specs.declared.source.Turn.TheVariants.{End, Bytes, Again}

-- with room for so many bytes, where the bytes that came are at the front of the chunk
abbrev pub TurnGives : Option (List ℕ) → Option (List ℕ) → List ℕ → ℕ → Result Turn ReadError → Type 0
TurnGives old new chunk room (Ok End) = Consumes old new [] × IsAtEnd new
TurnGives old new chunk room (Ok (Bytes n)) = (n ≤ room) × (n ≤ length chunk) × Consumes old new (take n chunk)
TurnGives old new chunk room (Ok Again) = Keeps old new
TurnGives old new chunk room (Err Fault) = Keeps old new
TurnGives old new chunk room (Err TooLong) = (n : ℕ) × (room < n) × (n ≤ length chunk) × Consumes old new (take n chunk)
TurnGives old new chunk room (Err NoMemory) = ⊥
