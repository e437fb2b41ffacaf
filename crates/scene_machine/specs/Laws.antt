-- A law of frames: an accepted one keeps a valid world valid.
use Rattle.std.specs.Prelude.{◌≡◌, true, List, [], ◌∷◌, Some, Ok, ⊤}
use Rattle.scene_kinds.specs.declared.entity.Entity.{Entity}
use Rattle.scene_model.specs.World.{World}
use Rattle.scene_model.specs.Perform.{Command, are_in_range}
use Rattle.scene_model.specs.Valid.{IsValid}
use Rattle.scene_machine.specs.Queue.{Request}
use Rattle.scene_machine.specs.Frame.{frame}

-- whatever its queue has spawned, a request is a command with values that their types can hold
abbrev pub IsInRange : Request → Type 0
IsInRange r = (spawned : List Entity) (c : Command) → r spawned ≡ Some c → are_in_range c ≡ true

-- the same of each request of a queue
abbrev pub AreInRange : List Request → Type 0
AreInRange [] = ⊤
AreInRange (r ∷ rs) = IsInRange r × AreInRange rs

-- and of each queue of a frame
abbrev pub QueuesAreInRange : List (List Request) → Type 0
QueuesAreInRange [] = ⊤
QueuesAreInRange (rs ∷ rss) = AreInRange rs × QueuesAreInRange rss

-- an accepted frame keeps a valid world valid
abbrev pub FramesKeep : Type 0
FramesKeep = (queues : List (List Request)) (w v : World) (es : List Entity) → IsValid w → QueuesAreInRange queues → frame queues w ≡ Ok (es, v)
    → IsValid v
