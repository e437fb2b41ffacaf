-- The record of a frame: what its commands note, one after another.
use Rattle.std.specs.Prelude.{◌≡◌, ℕ, ◌+◌, ◌≤◌, List, [], ◌∷◌, length, sum, sum_by, Ok}
use Rattle.scene_kinds.specs.declared.entity.Entity.{Entity}
use Rattle.scene_model.specs.World.{World}
use Rattle.scene_machine.specs.Frame.{frame}
use Rattle.scene_machine.specs.Laws.{QueuesAreInRange}
use Rattle.scene_machine.specs.Queue.{Request, play}
use Rattle.scene_world.specs.Stage.{Staged, Note, act}
use Rattle.scene_model.specs.Valid.{IsValid}
use Rattle.scene_journal.specs.Records.{Record, record_of, raised, redone, RecordFitsOn}
use Rattle.scene_deltas.specs.Notes.{deltas_of}
use Rattle.scene_deltas.specs.CommandLaws.{along}

-- the stage after a queue of commands, as far as they are accepted
abbrev pub after_queue : {N : Type 0} → Note N → List Request → Staged N → Staged N
after_queue note requests s = (play (act note) requests s).progress.state

-- the same of queues one after another
abbrev pub after_queues : {N : Type 0} → Note N → List (List Request) → Staged N → Staged N
after_queues note [] s = s
after_queues note (q ∷ qs) s = after_queues note qs (after_queue note q s)

-- what the commands of a frame note on a world
abbrev pub noted_by : {N : Type 0} → Note N → List (List Request) → World → List N
noted_by note queues w = (after_queues note queues (record { world = raised w; notes = [] })).notes

-- the record of a frame that a world accepts
abbrev pub frame_record : List (List Request) → World → Record
frame_record queues w = record_of w.tick (noted_by deltas_of queues w)

-- the record of an accepted frame fits on the world before it, and redoing it gives the world after it
abbrev pub FramesAreRecords : Type 0
FramesAreRecords = (queues : List (List Request)) (w v : World) (es : List Entity) → IsValid w → QueuesAreInRange queues → frame queues w ≡ Ok (es, v)
    → RecordFitsOn (frame_record queues w) w × (v ≡ redone (frame_record queues w) w)

-- the size of a frame: its commands, and the descendants that its recursive despawns despawn
abbrev pub size : List (List Request) → World → ℕ
size queues w = sum_by length queues + sum (noted_by along queues w)

-- the record of a frame has at most as many deltas as the frame has commands and despawns descendants
abbrev pub FramesMakeFewDeltas : Type 0
FramesMakeFewDeltas = (queues : List (List Request)) (w : World) → length (frame_record queues w).deltas ≤ size queues w
