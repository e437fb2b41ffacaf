-- An accepted frame leads to a world that goes on.
use Rattle.std.proofs.Common.{◌≡◌, List, Ok}
use Rattle.scene_kinds.specs.declared.entity.Entity.{Entity}
use Rattle.scene_kinds.specs.Answers.{Outcome}
use Rattle.scene_model.specs.World.{World}
use Rattle.scene_model.specs.Commands.{raise_tick}
use Rattle.scene_model.specs.Perform.{perform}
use Rattle.scene_machine.specs.Queue.{Request}
use Rattle.scene_machine.specs.Frame.{queues_from, framed}
use Rattle.scene_editor.specs.GoesOn.{GoesOn, HasSoundRows, IsOnTheWay, StaysOnTheWay}
use Rattle.scene_editor.specs.Laws.{FramesGoOn}
use Rattle.scene_editor.proofs.CellsFrom.{raised_starts, way_ends}
use Rattle.scene_editor.proofs.CommandsOnTheWay.{command_stays}
use Rattle.scene_editor.proofs.Leaves.{then_leaves, queues_leave}

-- the queues of a frame
queues_stay : (queues : List (List Request)) → StaysOnTheWay (queues_from perform 0 queues)
queues_stay queues before w v es way is = queues_leave (IsOnTheWay before) (command_stays before) 0 queues w way es v is

-- a frame of whatever kind
pub framed_goes_on : (does : World → Outcome (List Entity) World) (w v : World) (es : List Entity) → StaysOnTheWay does → HasSoundRows w
    → framed does w ≡ Ok (es, v) → HasSoundRows v × GoesOn w v
framed_goes_on does w v es stays sound is =
    let way = then_leaves (IsOnTheWay w) (raise_tick w) (λ a u. does u) (λ a u h. raised_starts w u sound h) (λ a u so fs t h. stays w u t fs so h) es v is in
    (way.sound, way_ends w v way)

pub frames_go_on : FramesGoOn
frames_go_on queues w v es sound is = framed_goes_on (queues_from perform 0 queues) w v es (queues_stay queues) sound is
