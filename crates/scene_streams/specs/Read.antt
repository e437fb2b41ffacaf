-- What is known once a source was read to its end, or wasn't.
use Rattle.std.specs.Prelude.{ℕ, ◌≡◌, ◌<◌, ◌≤◌, ◌⊎◌, ◌↔◌, true, false, List, length, Option, Result, Err, OnOk, IfErr, IfSome}
use Rattle.std.specs.Io.KnownBytes.{IsAtEnd}
use Rattle.scene_streams.specs.declared.source.Source.{Source}
use Rattle.scene_streams.specs.Limits.{most_bytes}
use Rattle.scene_streams.specs.Source.{reader_of, turns_left, read_failed}

-- what remains in a source was read, from the old source to the new one, as the result says: with one fault where the
-- source has failed, and with the other where it was too long
pub record IsRead {R T E : Type 0} (remaining : R → Option (List ℕ)) (old new : Source R) (result : Result T E)
    (failed too_long : E) : Type 0 where
  -- what was read is within the limit
  pub within : OnOk result (IfSome (remaining (reader_of old)) (λ bytes. length bytes ≤ most_bytes))
  -- and all of it was read
  pub end : OnOk result (IsAtEnd (remaining (reader_of new)))
  -- a failed read is answered exactly where the source has failed, now or before
  pub read : (result ≡ Err failed) ↔ (read_failed new ≡ true)
  -- a source that failed before stays as it is
  pub marked : read_failed old ≡ true → new ≡ old
  -- and one that fails now does so in a call of its reader
  pub called : read_failed old ≡ false → IfErr result (λ fault. fault ≡ failed → turns_left new < turns_left old)
  -- where it was too long, no turn is left, or there are more bytes than the limit
  pub long : IfErr result (λ fault. fault ≡ too_long
      → (turns_left new ≡ 0) ⊎ IfSome (remaining (reader_of old)) (λ bytes. most_bytes < length bytes))
