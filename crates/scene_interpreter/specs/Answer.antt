-- What the answer to a line means.
use Rattle.std.specs.Prelude.{◌≡◌, string_bytes}
use Rattle.scene_session.specs.Calls.{told}
use Rattle.scene_interpreter.specs.declared.answer.LineAnswer.{LineAnswer}
use Rattle.scene_interpreter.specs.declared.answer.LineAnswer.TheVariants as code
use Rattle.scene_interpreter.specs.Play.{PlayState, StateReply}
use Rattle.scene_interpreter.specs.Said.{Said, Nothing, Taken, Queued, Called, Fault, Marked, Counted, Text, Changed, Added, Bad}

-- the answer of the code, without the room of its lists
abbrev pub said_of : LineAnswer → Said
said_of code.Nothing = Nothing
said_of code.Taken = Taken
said_of code.Queued = Queued
said_of (code.Replied reply) = Called (told reply)
said_of (code.Fault fault) = Fault fault
said_of (code.Marked cursor) = Marked cursor
said_of (code.Counted count) = Counted count
said_of (code.Text text) = Text (string_bytes text)
said_of (code.Changed cells) = Changed cells.items
said_of (code.Added cells) = Added cells.items
said_of (code.Bad reason) = Bad reason

-- an answer is that of a reply, and the state is the one after it
abbrev pub Says : LineAnswer → PlayState → StateReply → Type 0
Says answer after r = (said_of answer ≡ r.said) × (after ≡ r.state)
