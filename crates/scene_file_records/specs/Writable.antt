-- Which records have a text that is read again: each number lies in the range of its type, each kind is in the schema
-- and its cell has its shape, the kinds of a list of cells ascend, and names are good. A tick may be any number.
use Rattle.std.specs.Prelude.{◌≡◌, ℕ, ◌<◌, ◌^◌, List, true, IfSome}
use Rattle.std.specs.List.{list_all, AllByRecursion}
use Rattle.scene_kinds.specs.declared.entity.Entity.{Entity}
use Rattle.scene_kinds.specs.declared.cell.Cell.{Cell}
use Rattle.scene_kinds.specs.Cells.{IsAscending}
use Rattle.scene_kinds.specs.Ranges.{is_entity, is_in_range}
use Rattle.scene_kinds.specs.Schema.{Kinds, fits_kind, is_good_name}
use Rattle.scene_deltas.specs.declared.delta.Delta.{Delta}
use Rattle.scene_deltas.specs.declared.delta.Delta.TheVariants.{Spawned, Despawned, Shifted, CellSet, Linked, ResourceSet}
use Rattle.scene_journal.specs.Records.{Record}

-- an index and a generation of 32 bits
abbrev pub IsEntity : Entity → Type 0
IsEntity e = is_entity e ≡ true

-- a place of 32 bits
abbrev pub IsPlace : ℕ → Type 0
IsPlace place = place < 2 ^ 32

-- a cell of a kind that is there, with a value of its shape
abbrev pub IsCellOf : Kinds → ℕ → Cell → Type 0
IsCellOf schema kind cell = fits_kind schema cell.value kind ≡ true

-- cells of such kinds, which ascend
pub record AreCells (schema : Kinds) (cells : List (ℕ × Cell)) : Type 0 where
  pub fit : list_all (λ c. fits_kind schema c.1.value c.0) cells ≡ true
  pub ascending : IsAscending cells

-- a parent with a place in its list
abbrev pub IsLink : Entity × ℕ → Type 0
IsLink link = IsEntity link.0 × IsPlace link.1

-- a resource's cell, whose value is in the range of its type
abbrev pub IsResourceCell : Cell → Type 0
IsResourceCell cell = is_in_range cell.value ≡ true

-- a delta, part by part
abbrev pub IsWritableDelta : Kinds → Delta → Type 0
IsWritableDelta schema (Spawned e cells fresh) = AreCells schema cells × IsEntity e
IsWritableDelta schema (Despawned e place cells link retired) = AreCells schema cells × IsEntity e × IfSome link IsLink × IsPlace place
IsWritableDelta schema (Shifted e place kind cell inward) = IsCellOf schema kind cell × IsEntity e × IsPlace place
IsWritableDelta schema (CellSet e kind before after) = IsCellOf schema kind after × IsCellOf schema kind before × IsEntity e
IsWritableDelta schema (Linked e before after) = IfSome after IsLink × IfSome before IsLink × IsEntity e
IsWritableDelta schema (ResourceSet name before after) = IfSome after IsResourceCell × IfSome before IsResourceCell × (is_good_name name ≡ true)

-- a record, each of whose deltas is so
abbrev pub IsWritable : Kinds → Record → Type 0
IsWritable schema r = AllByRecursion (IsWritableDelta schema) r.deltas
