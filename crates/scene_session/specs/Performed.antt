-- What a call that was tried came to for who asked for it.
use Rattle.std.specs.Prelude.{◌≡◌, ◌≢◌, Result, Ok, Err}
use Rattle.scene_kinds.specs.Answers.{refusal_of}
use Rattle.scene_kinds.specs.declared.fault.Fault.TheVariants.{NoMemory}
use Rattle.scene_session.specs.declared.call.Call.{Call}
use Rattle.scene_session.specs.declared.call.Reply.{Reply}
use Rattle.scene_session.specs.declared.call.Reply.TheVariants.{Refused}
use Rattle.scene_session.specs.declared.call.Stopped.{Stopped}

-- the reply stays; a call that was stopped comes back just where no memory was found, and else its refusal is the reply
abbrev pub Came : Result Reply Stopped → Result Reply Call → Type 0
Came (Ok reply) given = given ≡ Ok reply
Came (Err x) (Ok reply) = (reply ≡ Refused x.refusal) × (x.refusal ≢ refusal_of NoMemory)
Came (Err x) (Err back) = (back ≡ x.call) × (x.refusal.fault ≡ NoMemory)
