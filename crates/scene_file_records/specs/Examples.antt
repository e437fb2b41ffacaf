-- Worked texts of records: what is written for some, and what is read of texts that differ from them.
use Rattle.std.specs.Prelude.{◌≡◌, ℕ, List, [], ◌∷◌, ◌++◌, codes, true, false, Option, Some, None, Result, Ok, Err, pos, option_map}
use Rattle.serde_json.specs.Read.{read}
use Rattle.serde_json.specs.Written.{compact_text}
use Rattle.scene_kinds.specs.declared.entity.Entity.{Entity}
use Rattle.scene_kinds.specs.declared.cell.Cell.{Cell}
use Rattle.scene_kinds.specs.declared.shape.Shape.TheVariants as shape
use Rattle.scene_kinds.specs.declared.value.Value.{Value}
use Rattle.scene_kinds.specs.declared.value.Value.TheVariants as value
use Rattle.scene_kinds.specs.Schema.{Kinds}
use Rattle.scene_deltas.specs.declared.delta.Delta.{Delta}
use Rattle.scene_deltas.specs.declared.delta.Delta.TheVariants.{Spawned, Despawned, Shifted, CellSet, Linked, ResourceSet}
use Rattle.scene_journal.specs.Records.{Record, record_of}
use Rattle.scene_json_forms.specs.declared.fault.FileFault.{FileFault}
use Rattle.scene_json_forms.specs.declared.fault.FileFault.TheVariants.{UnknownKey, BadField}
use Rattle.scene_file_records.specs.Text.{records_text}
use Rattle.scene_file_records.specs.Walk.{records_at}

-- two kinds: A, an Int, and B, a Tag
abbrev pub schema : Kinds
schema = (codes "A", shape.Int) ∷ (codes "B", shape.Tag) ∷ []

-- an entity by its two numbers
abbrev pub ent : ℕ → ℕ → Entity
ent index generation = record { index = index; generation = generation }

-- a cell by its value and ticks
abbrev pub cell : Value → ℕ → ℕ → Cell
cell v added changed = record { value = v; added = added; changed = changed }

-- what the bytes of a text say that stands under the key `undo`, where they are JSON
abbrev pub said : List ℕ → Option (Result (List Record) FileFault)
said bytes = option_map (records_at schema (codes "undo")) (read bytes)

-- they are just what is written for these records, and are read as them
abbrev pub IsTextOf : List ℕ → List Record → Type 0
IsTextOf bytes rs = (compact_text (records_text rs) ≡ bytes) × (said bytes ≡ Some (Ok rs))

-- their first fault is this one
abbrev pub IsFaulty : List ℕ → FileFault → Type 0
IsFaulty bytes fault = said bytes ≡ Some (Err fault)

-- the text of one record of one delta at tick 0
abbrev pub of_delta : List ℕ → List ℕ
of_delta delta = codes "[{\"deltas\":[" ++ (delta ++ codes "],\"tick\":0}]")

-- the path of that delta, and of a key of it
abbrev pub first_delta : List ℕ
first_delta = codes "undo[0].deltas[0]"

-- the path of a key of that delta
abbrev pub at_key : List ℕ → List ℕ
at_key key = first_delta ++ (codes "." ++ key)

-- a delta of these bytes has a bad field under this key
abbrev pub IsBadAt : List ℕ → List ℕ → Type 0
IsBadAt delta key = IsFaulty (of_delta delta) (BadField (at_key key))

-- a spawn of one Int: its text, also in another order of keys, with white space, with a further cell and with a later
-- tick
abbrev pub SpawnIsWrittenAndRead : Type 0
SpawnIsWrittenAndRead =
    let spawn : ℕ → ℕ → List Record = λ changed tick.
    record_of tick (Spawned (ent 0 1) ((0, cell (value.Int (pos 5)) 1 changed) ∷ []) true ∷ []) ∷ [] in
    IsTextOf (codes "[]") []
    × IsTextOf (codes "[{\"deltas\":[{\"cells\":[[0,5,1,1]],\"entity\":\"0v1\",\"fresh\":true,\"op\":\"spawned\"}],\"tick\":0}]") (spawn 1 0)
    × IsTextOf (codes "[{\"deltas\":[{\"cells\":[[0,5,1,2]],\"entity\":\"0v1\",\"fresh\":true,\"op\":\"spawned\"}],\"tick\":0}]") (spawn 2 0)
    × IsTextOf (codes "[{\"deltas\":[{\"cells\":[[0,5,1,1]],\"entity\":\"0v1\",\"fresh\":true,\"op\":\"spawned\"}],\"tick\":3}]") (spawn 1 3)
    × (said (codes "[ {\"tick\":0,\"deltas\":[{\"op\":\"spawned\",\"fresh\":true,\"entity\":\"0v1\",\"cells\":[[0,5,1,1]]}]}\n]")
    ≡ Some (Ok (spawn 1 0)))

-- the other deltas
abbrev pub OthersAreWrittenAndRead : Type 0
OthersAreWrittenAndRead =
    let one : Delta → List Record = λ d. record_of 0 (d ∷ []) ∷ [] in
    let int : ℕ → ℕ → Cell = λ n changed. cell (value.Int (pos n)) 1 changed in
    IsTextOf
    (codes "[{\"deltas\":[{\"cells\":[[0,0,1,1]],\"entity\":\"0v1\",\"link\":null,\"op\":\"despawned\",\"place\":0,\"retired\":false}],\"tick\":3}]")
    (record_of 3 (Despawned (ent 0 1) 0 ((0, int 0 1) ∷ []) None false ∷ []) ∷ [])
    × IsTextOf (of_delta (codes "{\"cells\":[],\"entity\":\"0v1\",\"link\":[\"2v1\",4],\"op\":\"despawned\",\"place\":7,\"retired\":true}"))
    (one (Despawned (ent 0 1) 7 [] (Some (ent 2 1, 4)) true))
    × IsTextOf (of_delta (codes "{\"cell\":[1,true,1,1],\"entity\":\"0v1\",\"inward\":true,\"op\":\"shifted\",\"place\":0}"))
    (one (Shifted (ent 0 1) 0 1 (cell value.Tag 1 1) true))
    × IsTextOf (of_delta (codes "{\"after\":[0,6,1,2],\"before\":[0,5,1,1],\"entity\":\"0v1\",\"op\":\"cellset\"}"))
    (one (CellSet (ent 0 1) 0 (int 5 1) (int 6 2)))
    × IsTextOf (of_delta (codes "{\"after\":[\"1v1\",0],\"before\":null,\"entity\":\"0v1\",\"op\":\"linked\"}"))
    (one (Linked (ent 0 1) None (Some (ent 1 1, 0))))
    × IsTextOf (of_delta (codes "{\"after\":[\"Int\",6,1,2],\"before\":null,\"name\":\"n\",\"op\":\"resourceset\"}"))
    (one (ResourceSet (codes "n") None (Some (int 6 2))))

-- records and their deltas: a list, objects of just these keys, a tick
abbrev pub RecordFaults : Type 0
RecordFaults =
    IsFaulty (codes "{}") (BadField (codes "undo"))
    × IsFaulty (codes "[0]") (BadField (codes "undo[0]"))
    × IsFaulty (codes "[{\"deltas\":[],\"tick\":0,\"x\":0}]") (UnknownKey (codes "undo[0].x"))
    × IsFaulty (codes "[{\"tick\":0}]") (BadField (codes "undo[0].deltas"))
    × IsFaulty (codes "[{\"deltas\":[],\"tick\":0},{\"deltas\":[],\"tick\":-1}]") (BadField (codes "undo[1].tick"))
    × IsFaulty (of_delta (codes "[]")) (BadField first_delta)

-- `op` is looked at before the unknown keys, and these before the others; of a key that stands twice the last value
-- counts
abbrev pub OpFaults : Type 0
OpFaults =
    IsBadAt (codes "{\"cells\":[],\"x\":0}") (codes "op")
    × IsBadAt (codes "{\"op\":\"spawn\"}") (codes "op")
    × IsBadAt (codes "{\"op\":0}") (codes "op")
    × IsFaulty (of_delta (codes "{\"op\":\"spawned\",\"place\":0}")) (UnknownKey (at_key (codes "place")))
    × IsBadAt (codes "{\"op\":\"spawned\"}") (codes "cells")
    × IsBadAt (codes "{\"cells\":[],\"fresh\":true,\"op\":\"spawned\"}") (codes "entity")
    × IsBadAt (codes "{\"cells\":[],\"entity\":\"0v1\",\"fresh\":1,\"op\":\"spawned\"}") (codes "fresh")
    × IsBadAt (codes "{\"op\":\"spawn\",\"op\":\"linked\"}") (codes "after")

-- the cells: their length, a kind that is there, a value of its shape, and the order of the kinds after the parts
abbrev pub CellFaults : Type 0
CellFaults =
    let spawn : List ℕ → List ℕ = λ cells. codes "{\"cells\":" ++ (cells ++ codes ",\"entity\":\"0v1\",\"fresh\":true,\"op\":\"spawned\"}") in
    IsBadAt (spawn (codes "[[0,5,1]]")) (codes "cells[0]")
    × IsBadAt (spawn (codes "[[2,5,1,1]]")) (codes "cells[0][0]")
    × IsBadAt (spawn (codes "[[0,true,1,1]]")) (codes "cells[0][1]")
    × IsBadAt (spawn (codes "[[0,5,1,-1]]")) (codes "cells[0][3]")
    × IsBadAt (spawn (codes "[[1,true,1,1],[0,5,1,1]]")) (codes "cells[1]")
    × IsBadAt (spawn (codes "[[0,5,1,1],[0,5,1,1.0]]")) (codes "cells[1][3]")

-- the kinds of a set cell, after its parts
abbrev pub KindFaults : Type 0
KindFaults =
    IsBadAt (codes "{\"after\":[1,true,1,1],\"before\":[0,5,1,1],\"entity\":\"0v1\",\"op\":\"cellset\"}") (codes "after")
    × IsBadAt (codes "{\"after\":[1,true,1,1],\"before\":[0,5,1,1],\"entity\":\"v\",\"op\":\"cellset\"}") (codes "entity")

-- links: their length, and a place of 32 bits
abbrev pub LinkFaults : Type 0
LinkFaults =
    IsBadAt (codes "{\"after\":[\"1v1\"],\"before\":null,\"entity\":\"0v1\",\"op\":\"linked\"}") (codes "after")
    × IsBadAt (codes "{\"after\":null,\"before\":[\"1v1\",4294967296],\"entity\":\"0v1\",\"op\":\"linked\"}") (codes "before[1]")

-- resources: a name that isn't good comes after both cells
abbrev pub NameFaults : Type 0
NameFaults =
    IsBadAt (codes "{\"after\":null,\"before\":null,\"name\":\"9\",\"op\":\"resourceset\"}") (codes "name")
    × IsBadAt (codes "{\"after\":null,\"before\":[\"Int\",true,1,1],\"name\":\"9\",\"op\":\"resourceset\"}") (codes "before[1]")
