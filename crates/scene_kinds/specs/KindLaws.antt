-- What holds of all kind sets: of two of them, and of a kind set and the cells of a row.
use Rattle.std.specs.Prelude.{◌≡◌, ◌<◌, ℕ, ◌^◌, true, false, IsTrue, ◌↔◌, List, is_some}
use Rattle.scene_kinds.specs.declared.cell.Cell.{Cell}
use Rattle.scene_kinds.specs.Cells.{IsAscending, AreKindsBelow, cell_of, with_cell, without_cell, mask_of}
use Rattle.scene_kinds.specs.KindSet.{KindSet, has_kind, set_with, set_without, is_subset, is_disjoint}

-- a set is a subset of another one just where each kind of the one is in the other
abbrev pub SubsetsShareTheirKinds : Type 0
SubsetsShareTheirKinds = (set other : KindSet) → set < 2 ^ 64
    → IsTrue (is_subset set other) ↔ ((kind : ℕ) → kind < 64 → has_kind set kind ≡ true → has_kind other kind ≡ true)

-- two sets are disjoint just where no kind of the one is in the other
abbrev pub DisjointSetsShareNoKind : Type 0
DisjointSetsShareNoKind = (set other : KindSet) → set < 2 ^ 64
    → IsTrue (is_disjoint set other) ↔ ((kind : ℕ) → kind < 64 → has_kind set kind ≡ true → has_kind other kind ≡ false)

-- the kind set of cells has just their kinds
abbrev pub KindSetsHaveTheirKinds : Type 0
KindSetsHaveTheirKinds = (cells : List (ℕ × Cell)) (kind : ℕ) → IsAscending cells → has_kind (mask_of cells) kind ≡ is_some (cell_of cells kind)

-- a cell that is put in brings its kind
abbrev pub CellsBringTheirKinds : Type 0
CellsBringTheirKinds = (cells : List (ℕ × Cell)) (kind : ℕ) (cell : Cell) → IsAscending cells
    → mask_of (with_cell cells kind cell) ≡ set_with (mask_of cells) kind

-- a cell that is taken out takes its kind along
abbrev pub CellsTakeTheirKinds : Type 0
CellsTakeTheirKinds = (cells : List (ℕ × Cell)) (kind : ℕ) → IsAscending cells → AreKindsBelow 64 cells → kind < 64
    → mask_of (without_cell cells kind) ≡ set_without (mask_of cells) kind
