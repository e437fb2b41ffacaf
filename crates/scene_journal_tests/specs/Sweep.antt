-- What a sweep does, on a world or on a stage.
use Rattle.std.specs.Prelude.{List, []}
use Rattle.scene_kinds.specs.declared.entity.Entity.{Entity}
use Rattle.scene_kinds.specs.Answers.{Outcome}
use Rattle.scene_model.specs.Perform.{Act, DespawnRecursiveIfAlive, answering}

-- an entity goes with all below it, if it is alive; nothing is spawned
abbrev pub swept : {S : Type 0} → Act S → Entity → S → Outcome (List Entity) S
swept act e s = answering (λ a. []) (act s (DespawnRecursiveIfAlive e))
