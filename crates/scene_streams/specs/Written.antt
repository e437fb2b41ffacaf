-- What is known once a text was written to a sink, or wasn't.
use Rattle.std.specs.Prelude.{ℕ, ◌≡◌, ◌≢◌, ◌↔◌, true, false, List, Option, Result, Err, OnOk, OnErr, IfErr, IfSome}
use Rattle.std.specs.Io.KnownBytes.{Appends}
use Rattle.scene_streams.specs.declared.sink.Sink.{Sink}
use Rattle.scene_streams.specs.Known.{AppendsPrefix}
use Rattle.scene_streams.specs.Sink.{writer_of, write_failed}

-- the text of what is given, where that is known, was written behind the contents of a sink, from the old sink to the
-- new one, as the result says: with this fault where the sink has failed
pub record IsWritten {A W T E : Type 0} (text : A → List ℕ) (given : Option A) (contents : W → Option (List ℕ))
    (old new : Sink W) (result : Result T E) (failed : E) : Type 0 where
  -- all of the text was written
  pub written : OnOk result (IfSome given (λ x. Appends (contents (writer_of old)) (contents (writer_of new)) (text x)))
  -- and after any fault a prefix of it
  pub prefix : OnErr result (IfSome given (λ x. AppendsPrefix (contents (writer_of old)) (contents (writer_of new)) (text x)))
  -- after a fault that isn't a failed write, nothing of it
  pub nothing : IfErr result (λ fault. fault ≢ failed → new ≡ old)
  -- a write that fails now is answered exactly where the sink has failed
  pub write : write_failed old ≡ false → (result ≡ Err failed) ↔ (write_failed new ≡ true)
  -- a sink that failed before stays as it is
  pub refused : write_failed old ≡ true → new ≡ old
  -- and none to which all was written has failed
  pub unmarked : OnOk result (write_failed new ≡ false)
