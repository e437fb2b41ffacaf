-- Worked examples: the first fault of a few records, computed.
use Rattle.std.specs.Prelude.{◌≡◌, ℕ, [], ◌∷◌, Some, None}
use Rattle.scene_kinds.specs.declared.entity.Entity.{Entity}
use Rattle.scene_deltas.specs.declared.delta.Delta.TheVariants.{Linked}
use Rattle.scene_journal.specs.Records.{Record, record_of, redone}
use Rattle.scene_journal.specs.Examples.{with_one, spawned_int, empty, with_chain, chain_record, felling_record}
use Rattle.scene_journal.specs.FirstFaults.{first_fault}

-- the record of the spawn of an Int, with a tick and a number
abbrev pub spawned : ℕ → ℕ → Record
spawned tick n = record_of tick (spawned_int n ∷ [])

-- the first entity
abbrev pub first : Entity
first = record { index = 0; generation = 1 }

-- the record of a frame after it, in which that entity got itself as its parent
abbrev pub linked_to_itself : Record
linked_to_itself = record_of 1 (Linked first None (Some (first, 0)) ∷ [])

-- on the world of one spawn: its record has no fault; with another tick it has one, named by the number of deltas; and
-- with another cell its delta has one. After it the numbers go on: a record that fits is redone, and then the next one
-- has the fault
abbrev pub OneSpawn : Type 0
OneSpawn =
    (first_fault (spawned 0 5 ∷ []) [] with_one ≡ None)
    × (first_fault (spawned 3 5 ∷ []) [] with_one ≡ Some (0, 1))
    × (first_fault (spawned 0 6 ∷ []) [] with_one ≡ Some (0, 0))
    × (first_fault (spawned 0 5 ∷ []) (record_of 1 [] ∷ []) with_one ≡ None)
    × (first_fault (spawned 0 5 ∷ []) (linked_to_itself ∷ []) with_one ≡ Some (1, 0))
    × (first_fault (spawned 0 5 ∷ []) (record_of 1 [] ∷ record_of 1 [] ∷ []) with_one ≡ Some (2, 0))
    × (first_fault [] (record_of 1 [] ∷ spawned 2 5 ∷ []) with_one ≡ Some (1, 0))

-- a chain of three tags that is felled: the two records fit together at each of the three worlds; and no chain is
-- felled twice
abbrev pub FelledChain : Type 0
FelledChain =
    (first_fault [] (chain_record ∷ felling_record ∷ []) empty ≡ None)
    × (first_fault (chain_record ∷ []) (felling_record ∷ []) with_chain ≡ None)
    × (first_fault (felling_record ∷ chain_record ∷ []) [] (redone felling_record with_chain) ≡ None)
    × (first_fault (chain_record ∷ []) (felling_record ∷ felling_record ∷ []) with_chain ≡ Some (2, 3))
    × (first_fault (chain_record ∷ felling_record ∷ []) [] with_chain ≡ Some (1, 3))
