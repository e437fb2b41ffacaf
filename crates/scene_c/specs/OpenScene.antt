-- What an open scene keeps of its last call, and what it reads of its scene.
use Rattle.std.specs.Prelude.{◌≡◌, ℕ, ℤ, List, [], ◌∷◌, Option, Some, None, Result, Ok, Err, pos, string_bytes}
use Rattle.scene_kinds.specs.declared.cell.Cell.{Cell}
use Rattle.scene_kinds.specs.declared.value.Value.{Value}
use Rattle.scene_kinds.specs.declared.value.Value.TheVariants.{Tag, Int, Vec3, Text, Link}
use Rattle.scene_kinds.specs.Shape.{shape_of_value}
use Rattle.scene_kinds.specs.declared.entity.Entity.{Entity}
use Rattle.scene_kinds.specs.declared.refusal.Refusal.{Refusal}
use Rattle.scene_model.specs.World.{World}
use Rattle.scene_pass.specs.declared.cell_name.CellName.{CellName}
use Rattle.scene_session.specs.Calls.{Done, Refused}
use Rattle.scene_session.specs.Owner.{machine_at}
use Rattle.scene_interpreter.specs.Answer.{said_of}
use Rattle.scene_interpreter.specs.Interpreter.{Interpreter, LineReply, Tells, halted, owner_of, lone_interpreter, interpreter_of}
use Rattle.scene_interpreter.specs.Said.{Said, Nothing, Called, Changed, Added, refused}
use Rattle.scene_interpreter.specs.declared.halt.Halt.{Halt}
use Rattle.scene_interpreter.specs.declared.halt.Halt.TheVariants.{After}
use Rattle.scene_c.specs.declared.open_scene.OpenScene.{OpenScene}
use Rattle.scene_c.specs.declared.reading.Reading.{Reading}

-- the interpreter before its first line: the greatest depth, and as many calls as a counter of 64 bits holds
abbrev pub fresh_interpreter : Interpreter
fresh_interpreter = lone_interpreter 1048576 18446744073709551615

-- the last answer and its text are as they were
abbrev pub KeepsAnswer : OpenScene → OpenScene → Type 0
KeepsAnswer old new = (new.answer ≡ old.answer) × (string_bytes new.text ≡ string_bytes old.text)

-- A call that would have come to a reply was halted. Where it is done, its answer is that of the reply, and the text
-- alone is wanting; else the last answer stays
abbrev pub HasHalted : Halt → (old new : OpenScene) → LineReply → Type 0
HasHalted After old new r = Tells new.answer (interpreter_of new.interpreter) r × (string_bytes new.text ≡ [])
HasHalted h old new r = (interpreter_of new.interpreter ≡ halted h (interpreter_of old.interpreter) r.interpreter) × KeepsAnswer old new

-- the world now
abbrev pub world_of : OpenScene → World
world_of d = (machine_at (owner_of (interpreter_of d.interpreter))).now

-- the entities that a frame made, where an answer is that of a frame
abbrev pub made_in : Said → List Entity
made_in (Called (Done entities)) = entities
made_in said = []

-- the cells that an answer lists
abbrev pub named_in : Said → List CellName
named_in (Changed cells) = cells
named_in (Added cells) = cells
named_in said = []

-- the refusal that an answer is
abbrev pub refusal_in : Said → Option Refusal
refusal_in (Called (Refused r)) = Some r
refusal_in said = None

-- the three numbers of a value
abbrev pub three_of : Value → List ℤ
three_of Tag = pos 0 ∷ pos 0 ∷ pos 0 ∷ []
three_of (Int n) = n ∷ pos 0 ∷ pos 0 ∷ []
three_of (Vec3 v) = v
three_of (Text t) = pos 0 ∷ pos 0 ∷ pos 0 ∷ []
three_of (Link e) = pos e.index ∷ pos e.generation ∷ pos 0 ∷ []

-- a value by its shape and its numbers
abbrev pub numbers_of : Value → Reading
numbers_of v = record { shape = shape_of_value v; numbers = three_of v }

-- the text that a value is, and none where it is another
abbrev pub text_in : Value → List ℕ
text_in (Text t) = t
text_in v = []

-- a component was shown, or else the last answer says why there is none
abbrev pub HasRead : Option Reading → OpenScene → Result Cell Refusal → Type 0
HasRead (Some reading) new (Ok cell) =
    (reading ≡ numbers_of cell.value) × (string_bytes new.text ≡ text_in cell.value) × (said_of new.answer ≡ Nothing)
HasRead None new (Err r) = (said_of new.answer ≡ refused r) × (string_bytes new.text ≡ [])
HasRead reading new found = ⊥
