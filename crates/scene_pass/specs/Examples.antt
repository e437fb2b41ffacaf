-- A small world for the worked examples, with names for what the passes over it list, and a row for those of row steps.
use Rattle.std.specs.Prelude.{ℕ, ℤ, [], ◌∷◌, pos, negsuc}
use Rattle.scene_kinds.specs.declared.entity.Entity.{Entity}
use Rattle.scene_kinds.specs.declared.cell.Cell.{Cell}
use Rattle.scene_kinds.specs.declared.cells.Row.{Row}
use Rattle.scene_kinds.specs.declared.shape.Shape.TheVariants as shape
use Rattle.scene_kinds.specs.declared.value.Value.{Value}
use Rattle.scene_kinds.specs.declared.value.Value.TheVariants as value
use Rattle.scene_kinds.specs.Map as map
use Rattle.scene_kinds.specs.KindSet.{KindSet}
use Rattle.scene_model.specs.World.{World}
use Rattle.scene_systems.specs.declared.filter.Filter.{Filter}
use Rattle.scene_table.specs.declared.row_step.RowStep.{RowStep}
use Rattle.scene_table.specs.declared.row_step.RowStep.TheVariants.{AddVec, AddInt}
use Rattle.scene_pass.specs.Changes.{Values}
use Rattle.scene_pass.specs.declared.cell_name.CellName.{CellName}
use Rattle.scene_pass.specs.declared.row_change.RowChange.{RowChange}
use Rattle.scene_pass.specs.declared.row_change.Outcome.TheVariants.{Changed, Overflow}

-- the first entity of an index
abbrev pub ent : ℕ → Entity
ent index = record { index = index; generation = 1 }

-- a number that was added and changed at two ticks
abbrev pub number : ℕ → ℕ → Cell
number added changed = record { value = value.Int (pos 0); added = added; changed = changed }

-- a tag that was added and changed at two ticks
abbrev pub tag : ℕ → ℕ → Cell
tag added changed = record { value = value.Tag; added = added; changed = changed }

-- three tables: of kind 0, which is a number, of kind 1, which is a tag, and of both
abbrev pub three_tables : World
three_tables = record {
  schema = ((65 ∷ []), shape.Int) ∷ ((84 ∷ []), shape.Tag) ∷ [];
  slots = record { limit = 8; generations = 1 ∷ 1 ∷ 1 ∷ 1 ∷ []; free = [] };
  tick = 6;
  tables = map.of (
      (1, (record { entity = ent 2; cells = (0, number 3 6) ∷ [] }, []))
      ∷ (2, (record { entity = ent 3; cells = (1, tag 4 4) ∷ [] }, []))
      ∷ (
        3,
        (
          record { entity = ent 1; cells = (0, number 2 2) ∷ (1, tag 2 2) ∷ [] },
          record { entity = ent 0; cells = (0, number 1 1) ∷ (1, tag 5 5) ∷ [] } ∷ [],
        ),
      )
      ∷ []) tt;
  children = map.empty;
  resources = map.empty;
}

-- a filter, by its two kind sets
abbrev pub filter : KindSet → KindSet → Filter
filter need without = record { need = need; without = without }

-- the name of a cell, by the index of its entity and its kind
abbrev pub name : ℕ → ℕ → CellName
name index kind = record { entity = ent index; kind = kind }

-- ---- row steps

-- a number
abbrev pub int : ℤ → Value
int number = value.Int number

-- a vector of three numbers
abbrev pub vector : ℤ → ℤ → ℤ → Value
vector x y z = value.Vec3 (x ∷ y ∷ z ∷ [])

-- a row with a vector of kind 0, one of kind 1, the number 7 of kind 2, and a tag of kind 3
abbrev pub row_of_four : Row
row_of_four = record {
  entity = ent 4;
  cells =
      (0, record { value = vector (pos 1) (pos 2) (pos 3); added = 1; changed = 1 })
      ∷ (1, record { value = vector (pos 10) (negsuc 1) (pos 0); added = 1; changed = 1 })
      ∷ (2, record { value = int (pos 7); added = 1; changed = 1 })
      ∷ (3, tag 1 1)
      ∷ [];
}

-- a step that adds a vector
abbrev pub add_vector : ℕ → ℕ → RowStep
add_vector to by = AddVec to by

-- a step that adds a number
abbrev pub add_int : ℕ → ℤ → RowStep
add_int to by = AddInt to by

-- the greatest number of 64 bits with sign
abbrev pub greatest : ℤ
greatest = pos 9223372036854775807

-- how far it is above 7
abbrev pub up_from_7 : ℤ
up_from_7 = pos 9223372036854775800

-- what is made of the row of an entity, by its index: its values change
abbrev pub changed : ℕ → Values → RowChange
changed index values = record { entity = ent index; outcome = Changed values }

-- the same: its step at a place overflows
abbrev pub overflow : ℕ → ℕ → RowChange
overflow index at = record { entity = ent index; outcome = Overflow at }
