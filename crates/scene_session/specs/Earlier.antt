-- Calls that were made before an owner knew of any, and of which only the number is known: each stands for one that was
-- refused, since such a call leaves the machine as it is.
use Rattle.std.specs.Prelude.{List, [], ◌∷◌, replicate}
use Rattle.scene_kinds.specs.Schema.{Kinds}
use Rattle.scene_kinds.specs.declared.shape.Shape.TheVariants.{Tag}
use Rattle.scene_session.specs.declared.log.Earlier.{Earlier}
use Rattle.scene_session.specs.Calls.{Asked, Advance}
use Rattle.scene_session.specs.Owner.{MadeCall}
use Rattle.scene_session.specs.Whole.{Whole, step, whole_of}

-- kinds that aren't these
abbrev pub other_kinds : Kinds → Kinds
other_kinds [] = ([], Tag) ∷ []
other_kinds (k ∷ ks) = []

-- an advance by a schedule for other kinds, which is refused
abbrev pub refused_call : Whole → Asked
refused_call w = Advance (record { schema = other_kinds w.machine.now.schema; phases = [] })

-- the same as a call that was made, with its answer
abbrev pub call_before : Whole → MadeCall
call_before w = record { session = 0; call = refused_call w; answer = (step w (refused_call w)).1 }

-- so many of them
abbrev pub earlier_calls : Earlier → List MadeCall
earlier_calls e = replicate e.calls (call_before (whole_of e.left.value))
