-- Named cells, as one ordered map, and what the calls on resources do to it.
use Rattle.std.specs.Prelude.{◌≡◌, ◌≢◌, refl, ℕ, map, Contains, IsSome, List, Option, Some, None, Ok}
use Rattle.std.specs.Coded.{Coded, code_by, coded×, coded_list, coded_ℕ}
use Rattle.std.specs.declared.cmp.Ordering.{Ordering}
use Rattle.std.specs.Ordering.{nat_cmp}
use Rattle.std.specs.Cmp.{IsTotalOrder}
use Rattle.std.specs.Cmp.Lexicographic.{slice_cmp, nat_list_cmp_total}
use Rattle.std.specs.FinMap.{IsAntisymmetric}
use Rattle.std.proofs.lemmas.Map.Lookups.{exact_bytes}
use Rattle.scene_kinds.specs.contracts.cell.Cell as cell
use Rattle.scene_kinds.specs.declared.cell.Cell.{Cell}
use Rattle.scene_kinds.specs.declared.fault.Fault.TheVariants.{NoSuchResource}
use Rattle.scene_kinds.specs.declared.value.Value.{Value}
use Rattle.scene_kinds.specs.Answers.{Outcome, refuse}
use Rattle.scene_kinds.specs.Cells.{put_over}
use Rattle.scene_kinds.specs.Map as cells
use Rattle.scene_kinds.specs.Map.{Map}

-- names by their bytes
abbrev pub name_cmp : List ℕ → List ℕ → Ordering
name_cmp a b = slice_cmp nat_cmp a b

-- the order is total, and only equal names tie
abbrev pub name_cmp_total : IsTotalOrder name_cmp
name_cmp_total = nat_list_cmp_total

-- only equal names tie in this order
pub name_cmp_exact : IsAntisymmetric name_cmp
name_cmp_exact a b h = exact_bytes a b h

-- the cell of each name that has one
abbrev pub NamedCells : Type 0
NamedCells = Map name_cmp Cell

-- what contracts see of resources: the cell of each name that has one, and the names that are kept, by their bytes: for
-- a cell of each of these there is memory
pub record StoredResources : Type 0 where
  pub cells : NamedCells
  pub kept : List (List ℕ)

-- resources are told apart by their cells and names
abbrev pub stored_code : Coded StoredResources
stored_code = code_by (NamedCells × List (List ℕ)) (coded× (cells.code {R = name_cmp} (coded_list coded_ℕ) cell.the_row.coded)
    (coded_list (coded_list coded_ℕ))) (λ r. (r.cells, r.kept)) (λ p. record { cells = p.0; kept = p.1 }) (λ _. refl)

-- each name that was kept still is
pub record IsWider (old new : List (List ℕ)) : Type 0 where
  pub each : (name : List ℕ) → Contains old name → Contains new name

-- the cell of a name, where it has one
abbrev pub cell_of : NamedCells → List ℕ → Option Cell
cell_of r name = cells.get r name

-- each name that has a cell is kept
pub record Holds (kept : List (List ℕ)) (r : NamedCells) : Type 0 where
  pub each : (name : List ℕ) → IsSome (cell_of r name) → Contains kept name

-- no more names are kept than were, and all that were but one; that one is kept no more where it has no cell
pub record Forgets (r : StoredResources) (kept : List (List ℕ)) (name : List ℕ) : Type 0 where
  pub fewer : IsWider kept r.kept
  pub others : (q : List ℕ) → q ≢ name → Contains r.kept q → Contains kept q
  pub gone : cell_of r.cells name ≡ None → Contains kept name → ⊥
  pub stays : IsSome (cell_of r.cells name) → Contains kept name

-- the names, by their bytes
abbrev pub names_of : NamedCells → List (List ℕ)
names_of r = map (λ e. e.0) r.entries

-- the value put at a name
abbrev pub put_of : NamedCells → List ℕ → Value → ℕ → NamedCells
put_of r name value tick = cells.insert name_cmp_total r name (put_over (cell_of r name) value tick)

-- the name with this cell, or without one
abbrev pub restore_of : NamedCells → List ℕ → Option Cell → NamedCells
restore_of r name None = cells.remove r name
restore_of r name (Some cell) = cells.insert name_cmp_total r name cell

-- the answer where the name has this cell, or none
abbrev pub taken : NamedCells → List ℕ → Option Cell → Outcome Cell NamedCells
taken r name None = refuse NoSuchResource
taken r name (Some cell) = Ok (cell, cells.remove r name)

-- the name leaves the map, and its cell is the answer
abbrev pub take_of : NamedCells → List ℕ → Outcome Cell NamedCells
take_of r name = taken r name (cell_of r name)
