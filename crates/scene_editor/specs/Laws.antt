-- The laws: an accepted frame leads to a world that goes on, and so do calls with no undo among them.
use Rattle.std.specs.Prelude.{◌≡◌, List, Ok}
use Rattle.scene_kinds.specs.declared.entity.Entity.{Entity}
use Rattle.scene_model.specs.World.{World}
use Rattle.scene_machine.specs.Machine.{Machine}
use Rattle.scene_machine.specs.Queue.{Request}
use Rattle.scene_machine.specs.Frame.{Call, frame, after_calls}
use Rattle.scene_editor.specs.GoesOn.{GoesOn, HasSoundRows}
use Rattle.scene_editor.specs.Order.{IsInOrder, ComesAfter, ArePlain}

-- an accepted frame of queues
abbrev pub FramesGoOn : Type 0
FramesGoOn = (queues : List (List Request)) (w v : World) (es : List Entity) → HasSoundRows w → frame queues w ≡ Ok (es, v)
    → HasSoundRows v × GoesOn w v

-- calls of a machine
abbrev pub MachinesGoOn : Type 0
MachinesGoOn = (calls : List Call) (m : Machine World) → ArePlain calls → IsInOrder m
    → IsInOrder (after_calls m calls) × ComesAfter m (after_calls m calls)
