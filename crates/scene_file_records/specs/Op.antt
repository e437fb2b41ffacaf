-- The names of what deltas do, and which keys each has (docs/SCENE_FILES.md, "Version 2").
use Rattle.std.specs.Prelude.{ℕ, List, [], ◌∷◌, codes, Option, Some, None, if◌then◌else◌}
use Rattle.std.specs.Str.{bytes_eq}
use Rattle.scene_file_records.specs.declared.op.Op.{Op}
use Rattle.scene_file_records.specs.declared.op.Op.TheVariants as op

-- the value of the key `op`
abbrev pub op_name : Op → List ℕ
op_name op.Spawned = codes "spawned"
op_name op.Despawned = codes "despawned"
op_name op.Shifted = codes "shifted"
op_name op.CellSet = codes "cellset"
op_name op.Linked = codes "linked"
op_name op.ResourceSet = codes "resourceset"

-- what deltas of a name do, where it is one of the six
abbrev pub op_named : List ℕ → Option Op
op_named name =
    if bytes_eq name (op_name op.Spawned) then Some op.Spawned
    else if bytes_eq name (op_name op.Despawned) then Some op.Despawned
    else if bytes_eq name (op_name op.Shifted) then Some op.Shifted
    else if bytes_eq name (op_name op.CellSet) then Some op.CellSet
    else if bytes_eq name (op_name op.Linked) then Some op.Linked
    else if bytes_eq name (op_name op.ResourceSet) then Some op.ResourceSet
    else None

-- the keys of such a delta, by their bytes
abbrev pub op_keys : Op → List (List ℕ)
op_keys op.Spawned = codes "cells" ∷ codes "entity" ∷ codes "fresh" ∷ codes "op" ∷ []
op_keys op.Despawned = codes "cells" ∷ codes "entity" ∷ codes "link" ∷ codes "op" ∷ codes "place" ∷ codes "retired" ∷ []
op_keys op.Shifted = codes "cell" ∷ codes "entity" ∷ codes "inward" ∷ codes "op" ∷ codes "place" ∷ []
op_keys op.CellSet = codes "after" ∷ codes "before" ∷ codes "entity" ∷ codes "op" ∷ []
op_keys op.Linked = codes "after" ∷ codes "before" ∷ codes "entity" ∷ codes "op" ∷ []
op_keys op.ResourceSet = codes "after" ∷ codes "before" ∷ codes "name" ∷ codes "op" ∷ []
