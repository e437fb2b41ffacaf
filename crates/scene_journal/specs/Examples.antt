-- Worked examples: the records of two frames, delta by delta, and what doesn't fit.
use Rattle.std.specs.Prelude.{◌≡◌, ℕ, List, [], ◌∷◌, true, false, Option, Some, None}
use Rattle.scene_kinds.specs.declared.entity.Entity.{Entity}
use Rattle.scene_kinds.specs.declared.cell.Cell.{Cell}
use Rattle.scene_kinds.specs.declared.value.Value.TheVariants as value
use Rattle.scene_model.specs.World.{World, new_world}
use Rattle.scene_model.specs.Perform.{DespawnRecursive, SetParent}
use Rattle.scene_machine.specs.Queue.{Request, known}
use Rattle.scene_machine.specs.ExampleWords.{ent, cell, int, schema, spawn_int, spawn_tag, local, world, int_row}
use Rattle.scene_deltas.specs.declared.delta.Delta.{Delta}
use Rattle.scene_deltas.specs.declared.delta.Delta.TheVariants.{Spawned, Despawned, Linked}
use Rattle.scene_deltas.specs.Deltas.{fits_on, fits_back}
use Rattle.scene_journal.specs.Records.{Record, record_of, redone, undone, RecordFitsOn, RecordFitsBack}
use Rattle.scene_journal.specs.Frames.{frame_record, size}

-- a frame spawns a chain of three tags, of which the first is the parent of the others; the next one fells it
abbrev pub chain : List (List Request)
chain =
    let under_first : _ = λ e. SetParent e (ent 0 1) in
    (spawn_tag ∷ spawn_tag ∷ spawn_tag ∷ local 1 under_first ∷ local 2 under_first ∷ []) ∷ []

-- a frame of one recursive despawn
abbrev pub felling : List (List Request)
felling = (known (DespawnRecursive (ent 0 1)) ∷ []) ∷ []

-- the cells of one tag of tick 1
abbrev pub one_tag : List (ℕ × Cell)
one_tag = (1, cell value.Tag 1 1) ∷ []

-- the delta of a spawn of one tag, from a fresh slot
abbrev pub spawned_tag : Entity → Delta
spawned_tag e = Spawned e one_tag true

-- the delta of a despawn of such an entity, with its place and its link
abbrev pub despawned_tag : Entity → ℕ → Option (Entity × ℕ) → Delta
despawned_tag e place link = Despawned e place one_tag link false

-- what the first frame notes
abbrev pub chain_record : Record
chain_record = record_of 0 (
    spawned_tag (ent 0 1) ∷ spawned_tag (ent 1 1) ∷ spawned_tag (ent 2 1)
    ∷ Linked (ent 1 1) None (Some (ent 0 1, 0)) ∷ Linked (ent 2 1) None (Some (ent 0 1, 1)) ∷ [])

-- what the second one notes
abbrev pub felling_record : Record
felling_record = record_of 1 (
    despawned_tag (ent 1 1) 1 (Some (ent 0 1, 0)) ∷ despawned_tag (ent 2 1) 1 (Some (ent 0 1, 0)) ∷ despawned_tag (ent 0 1) 0 None ∷ [])

-- the world before both
abbrev pub empty : World
empty = new_world schema 100

-- the world between them
abbrev pub with_chain : World
with_chain = redone chain_record empty

-- the two records, delta by delta, the size of the second frame, and the worlds before it and before both
abbrev pub FellingIsNoted : Type 0
FellingIsNoted =
    (frame_record chain empty ≡ chain_record)
    × (frame_record felling with_chain ≡ felling_record)
    × (size felling with_chain ≡ 3)
    × (undone felling_record (redone felling_record with_chain) ≡ with_chain)
    × (undone chain_record with_chain ≡ empty)
    × (redone felling_record with_chain ≡ world 2 (2 ∷ 2 ∷ 2 ∷ []) (1 ∷ 2 ∷ 0 ∷ []) [] tt)

-- a world of one spawn
abbrev pub with_one : World
with_one = world 1 (1 ∷ []) [] ((1, (int_row (ent 0 1) 5 1 1, [])) ∷ []) tt

-- the delta of the first spawn of an Int
abbrev pub spawned_int : ℕ → Delta
spawned_int n = Spawned (ent 0 1) ((0, cell (int n) 1 1) ∷ []) true

-- the record of a spawn doesn't fit back where its tick is another, nor with another cell; and no entity fits as its
-- own parent
abbrev pub OthersAreRefused : Type 0
OthersAreRefused =
    (frame_record ((spawn_int 5 ∷ []) ∷ []) empty ≡ record_of 0 (spawned_int 5 ∷ []))
    × (redone (record_of 0 (spawned_int 5 ∷ [])) empty ≡ with_one)
    × RecordFitsBack (record_of 0 (spawned_int 5 ∷ [])) with_one
    × (RecordFitsBack (record_of 3 (spawned_int 5 ∷ [])) with_one → ⊥)
    × (RecordFitsOn (record_of 0 []) with_one → ⊥)
    × (fits_back (spawned_int 6) with_one ≡ false)
    × (fits_on (Linked (ent 0 1) None (Some (ent 0 1, 0))) with_one ≡ false)
