-- The queues of a frame, and what applying them did.
use Rattle.std.specs.Prelude.{◌≡◌, ℕ, List, [], ◌∷◌, Ok, Err, map, take, get_or}
use Rattle.scene_kinds.specs.declared.entity.Entity.{Entity}
use Rattle.scene_kinds.specs.Answers.{Outcome}
use Rattle.scene_commands.specs.declared.command.Command.{Command}
use Rattle.scene_model.specs.World.{World}
use Rattle.scene_model.specs.Perform.{Act}
use Rattle.scene_machine.specs.Queue.{Request}
use Rattle.scene_machine.specs.Frame.{queues_from}
use Rattle.scene_world.specs.Stage.{Staged}
use Rattle.scene_queue.specs.Requests.{requests}
use Rattle.scene_queue.specs.Queue.{QueueState, IsLeft}

-- what the queues of a frame ask of a world
abbrev pub frame_of : List QueueState → List (List Request)
frame_of queues = map (λ q. requests q.commands) queues

-- the queues of a frame of one command
abbrev pub lone_frame : Command → List QueueState
lone_frame command = record { limit = 1; commands = command ∷ [] } ∷ []

-- the state that the first queues of a frame leave, and then the first commands of the next one
abbrev pub ArePassed : {S : Type 0} → Act S → List (List Request) → (old new : S) → Type 0
ArePassed {S} act rss old new =
    (count : ℕ) × ((mid : S) × ((es : List Entity) × ((queues_from act 0 (take count rss) old ≡ Ok (es, mid))
    × ((next : ℕ) × IsLeft act (get_or rss count []) next mid new))))

-- what a state came to, as what is seen of it came to
abbrev pub seen_as : {A S T : Type 0} → (S → T) → Outcome A S → Outcome A T
seen_as see (Ok p) = Ok (p.0, see p.1)
seen_as see (Err r) = Err r

-- what a stage came to, as what its world came to
abbrev pub on_world : {A N : Type 0} → Outcome A (Staged N) → Outcome A World
on_world o = seen_as (λ s. s.world) o
