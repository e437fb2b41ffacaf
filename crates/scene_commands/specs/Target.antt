-- Which entities targets name.
use Rattle.std.specs.Prelude.{List, Option, Some, slice_get, option_map, option_and_then}
use Rattle.scene_kinds.specs.declared.entity.Entity.{Entity}
use Rattle.scene_commands.specs.declared.target.Target.{Target}
use Rattle.scene_commands.specs.declared.target.Target.TheVariants.{Id, New}

-- the entity of a target, by those that its queue has spawned
abbrev pub target_entity : Target → List Entity → Option Entity
target_entity (Id e) spawned = Some e
target_entity (New k) spawned = slice_get spawned k

-- the entities of two targets; the first is looked at first
abbrev pub target_entities : Target → Target → List Entity → Option (Entity × Entity)
target_entities s t spawned = option_and_then (λ e. option_map (λ d. (e, d)) (target_entity t spawned)) (target_entity s spawned)
