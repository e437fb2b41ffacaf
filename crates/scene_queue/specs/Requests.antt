-- What the commands of a queue ask of a world.
use Rattle.std.specs.Prelude.{List, option_map, map}
use Rattle.scene_kinds.specs.declared.entity.Entity.{Entity}
use Rattle.scene_commands.specs.declared.target.Target.{Target}
use Rattle.scene_commands.specs.declared.command.Command.{Command as Queued}
use Rattle.scene_commands.specs.declared.command.Command.TheVariants as queued
use Rattle.scene_commands.specs.Target.{target_entity, target_entities}
use Rattle.scene_model.specs.Perform.{Command, Spawn, Despawn, DespawnRecursive, DespawnRecursiveIfAlive, Insert, Remove, SetParent, RemoveParent, PutResource, RemoveResource}
use Rattle.scene_machine.specs.Queue.{Request, known}

-- a command on one target, once that is an entity
abbrev pub on_entity : Target → (Entity → Command) → Request
on_entity t command spawned = option_map command (target_entity t spawned)

-- a command on two targets, once both are entities
abbrev pub on_both : Target → Target → (Entity → Entity → Command) → Request
on_both s t command spawned = option_map (λ p. command p.0 p.1) (target_entities s t spawned)

-- what a command asks, once its targets are entities
abbrev pub request_of : Queued → Request
request_of (queued.Spawn cells) = known (Spawn cells)
request_of (queued.Despawn t) = on_entity t Despawn
request_of (queued.DespawnAll t) = on_entity t DespawnRecursive
request_of (queued.DespawnAllIfAlive t) = on_entity t DespawnRecursiveIfAlive
request_of (queued.Insert t kind value) = on_entity t (λ e. Insert e kind value)
request_of (queued.Remove t kind) = on_entity t (λ e. Remove e kind)
request_of (queued.SetParent child parent) = on_both child parent SetParent
request_of (queued.RemoveParent child) = on_entity child RemoveParent
request_of (queued.PutResource name value) = known (PutResource name value)
request_of (queued.RemoveResource name) = known (RemoveResource name)

-- what the commands ask, one after another
abbrev pub requests : List Queued → List Request
requests commands = map request_of commands
