-- What the log of an owner without a lock takes, as a call that was made.
use Rattle.scene_queue.specs.Frames.{lone_frame}
use Rattle.scene_session.specs.declared.log.Logged.{Logged}
use Rattle.scene_session.specs.declared.log.LoggedCall.{LoggedCall}
use Rattle.scene_session.specs.declared.log.LoggedCall.TheVariants.{Whole, Lone}
use Rattle.scene_session.specs.Calls.{Asked, Submit, asked, told}
use Rattle.scene_session.specs.Owner.{MadeCall}

-- what it asked
abbrev pub asked_in : LoggedCall → Asked
asked_in (Whole call) = asked call.value
asked_in (Lone command) = Submit (lone_frame command.value)

-- the call with its answer
abbrev pub logged : Logged → MadeCall
logged l = record { session = l.session; call = asked_in l.call; answer = told l.reply }
