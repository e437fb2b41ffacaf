-- Worked examples: parts that break each rule in turn, and the first one that they break.
use Rattle.std.specs.Prelude.{◌≡◌, ℕ, List, [], ◌∷◌, ◌++◌, codes, Some, None, pos}
use Rattle.scene_kinds.specs.declared.entity.Entity.{Entity}
use Rattle.scene_kinds.specs.declared.cell.Cell.{Cell}
use Rattle.scene_kinds.specs.declared.cells.Row.{Row}
use Rattle.scene_kinds.specs.declared.value.Value.TheVariants as value
use Rattle.scene_kinds.specs.declared.shape.Shape.TheVariants as shape
use Rattle.scene_kinds.specs.Map as map
use Rattle.scene_validate.specs.Parts.{Parts, world_of, parts_of}
use Rattle.scene_validate.specs.Rules.{first_broken}

-- an entity by its index and its generation
abbrev pub ent : ℕ → ℕ → Entity
ent i g = record { index = i; generation = g }

-- a cell of an Int with its ticks
abbrev pub int : ℕ → ℕ → ℕ → Cell
int n added changed = record { value = value.Int (pos n); added = added; changed = changed }

-- a row of one Int of 5
abbrev pub row : Entity → ℕ → ℕ → Row
row e added changed = record { entity = e; cells = (0, int 5 added changed) ∷ [] }

-- the last entity of index 0, with an Int, at tick 1
abbrev pub last : Entity
last = ent 0 4294967295

-- a world of one entity, whose index is at its last generation
abbrev pub small : Parts
small = record {
  schema = (codes "A", shape.Int) ∷ [];
  limit = 2;
  tick = 1;
  generations = 4294967295 ∷ [];
  free = [];
  tables = (1, row last 1 1 ∷ []) ∷ [];
  children = [];
  resources = [];
}

-- three rows of new entities, with these lists of children
abbrev pub three : List (Entity × List Entity) → Parts
three lists = record small {
  limit = 3;
  generations = 1 ∷ 1 ∷ 1 ∷ [];
  tables = (1, row (ent 0 1) 1 1 ∷ row (ent 1 1) 1 1 ∷ row (ent 2 1) 1 1 ∷ []) ∷ [];
  children = lists;
}

-- it is its world's, and breaks nothing
abbrev pub SmallIsAWorld : Type 0
SmallIsAWorld =
    (first_broken small ≡ None) × (parts_of (world_of small) ≡ small)
    × (world_of small ≡ record {
      schema = (codes "A", shape.Int) ∷ [];
      slots = record { limit = 2; generations = 4294967295 ∷ []; free = [] };
      tick = 1;
      tables = map.of ((1, (row last 1 1, [])) ∷ []) tt;
      children = map.empty;
      resources = map.empty;
    })

-- the slots: a limit of none, more slots than the limit, a generation of none, a free index that lives or stands twice
-- or has no slot, an index that is lost
abbrev pub BrokenSlots : Type 0
BrokenSlots =
    (first_broken (record small { limit = 0 }) ≡ Some 1)
    × (first_broken (record small { limit = 1048577 }) ≡ Some 1)
    × (first_broken (record small { limit = 1; generations = 4294967295 ∷ 1 ∷ [] }) ≡ Some 1)
    × (first_broken (record small { generations = 0 ∷ [] }) ≡ Some 2)
    × (first_broken (record small { free = 0 ∷ [] }) ≡ Some 5)
    × (first_broken (record small { generations = 4294967295 ∷ 1 ∷ []; free = 1 ∷ 1 ∷ [] }) ≡ Some 5)
    × (first_broken (record small { free = 1 ∷ [] }) ≡ Some 5)
    × (first_broken (record small { generations = 4294967295 ∷ 1 ∷ [] }) ≡ Some 6)
    × (first_broken (record small { generations = 4294967295 ∷ 4294967295 ∷ [] }) ≡ None)
    × (first_broken (record small { generations = 4294967295 ∷ 1 ∷ []; free = 1 ∷ [] }) ≡ None)

-- the rows: an entity of another generation or without a slot, one that stands twice, a table without rows, a kind set
-- that stands twice or isn't its rows', a kind that isn't in the schema
abbrev pub BrokenRows : Type 0
BrokenRows =
    (first_broken (record small { generations = 7 ∷ [] }) ≡ Some 3)
    × (first_broken (record small { generations = [] }) ≡ Some 3)
    × (first_broken (record small { tables = (1, row last 1 1 ∷ row last 1 1 ∷ []) ∷ [] }) ≡ Some 4)
    × (first_broken (record small { tables = small.tables ++ small.tables }) ≡ Some 4)
    × (first_broken (record small { tables = (1, []) ∷ [] }) ≡ Some 7)
    × (first_broken (record small { tables = small.tables ++ (2, []) ∷ [] }) ≡ Some 7)
    × (first_broken (record small { tables = (2, row last 1 1 ∷ []) ∷ [] }) ≡ Some 7)
    × (first_broken (record small { schema = [] }) ≡ Some 7)
    × (first_broken (record small { schema = (codes "A", shape.Tag) ∷ [] }) ≡ Some 7)
    × (first_broken (record small { tables = (1, row last 1 2 ∷ []) ∷ [] }) ≡ Some 10)
    × (first_broken (record small { tables = (1, row last 1 0 ∷ []) ∷ [] }) ≡ Some 10)

-- the links: a dead parent or child, an empty list, a parent of two lists, a child of two parents or twice in a list,
-- an entity that is its own parent or its own ancestor
abbrev pub BrokenLinks : Type 0
BrokenLinks =
    (first_broken (record small { children = (last, last ∷ []) ∷ [] }) ≡ Some 8)
    × (first_broken (three ((ent 0 2, ent 1 1 ∷ []) ∷ [])) ≡ Some 8)
    × (first_broken (three ((ent 0 1, ent 1 2 ∷ []) ∷ [])) ≡ Some 8)
    × (first_broken (three ((ent 0 1, []) ∷ [])) ≡ Some 8)
    × (first_broken (three ((ent 0 1, ent 1 1 ∷ []) ∷ (ent 0 1, ent 2 1 ∷ []) ∷ [])) ≡ Some 8)
    × (first_broken (three ((ent 0 1, ent 2 1 ∷ []) ∷ (ent 1 1, ent 2 1 ∷ []) ∷ [])) ≡ Some 8)
    × (first_broken (three ((ent 0 1, ent 2 1 ∷ ent 2 1 ∷ []) ∷ [])) ≡ Some 8)
    × (first_broken (three ((ent 0 1, ent 1 1 ∷ []) ∷ (ent 1 1, ent 2 1 ∷ []) ∷ (ent 2 1, ent 0 1 ∷ []) ∷ [])) ≡ Some 8)
    × (first_broken (three ((ent 2 1, ent 1 1 ∷ []) ∷ (ent 1 1, ent 0 1 ∷ []) ∷ [])) ≡ None)

-- the resources: a name that isn't good or stands twice, ticks that are out of order
abbrev pub BrokenResources : Type 0
BrokenResources =
    (first_broken (record small { resources = (codes "n", int 5 1 1) ∷ (codes "n", int 5 1 1) ∷ [] }) ≡ Some 9)
    × (first_broken (record small { resources = (codes "9", int 5 1 1) ∷ [] }) ≡ Some 9)
    × (first_broken (record small { resources = (codes "n", int 5 1 2) ∷ [] }) ≡ Some 10)
    × (first_broken (record small { resources = (codes "n", int 5 0 1) ∷ (codes "m", int 5 1 1) ∷ [] }) ≡ None)
