-- What is asked of lists of parts so that the storage of a world is made of them.
use Rattle.std.specs.Prelude.{◌≡◌, ℕ, ◌<◌, List, [], ◌∷◌, true, Option, Some, None, Result, Ok, Err, map as each, nat_eq, nat_lt}
use Rattle.std.specs.List.{list_all, AllByRecursion, IsDistinct}
use Rattle.std.specs.Ordering.{nat_cmp, eq_by_cmp}
use Rattle.scene_kinds.specs.declared.entity.Entity.{Entity}
use Rattle.scene_kinds.specs.declared.cells.Row.{Row}
use Rattle.scene_kinds.specs.Cells.{HasKinds}
use Rattle.scene_kinds.specs.Entity.{is_same}
use Rattle.scene_table.specs.Tables.{Tables, NoneOf, with_row}
use Rattle.scene_links.specs.Forest.{Forest, IsForest, AllLinked, children_of, with_children}
use Rattle.scene_links.specs.Room.{IsAlone}
use Rattle.scene_kinds.specs.Answers.{refusal_of}
use Rattle.scene_kinds.specs.declared.fault.Fault.TheVariants.{BadWorld}
use Rattle.scene_kinds.specs.declared.refusal.Refusal.{Refusal}
use Rattle.scene_kinds.specs.KindSet.{KindSet}
use Rattle.scene_model.specs.World.{World}
use Rattle.scene_validate.specs.Parts.{Parts, keys, forest_of, world_of}
use Rattle.scene_validate.specs.Rules.{flat, are_distinct, first_broken}

-- ---- rows

-- a row may be added: it is of a kind set, its index is below a count, and no row has that index
pub record IsTakable (tables : Tables) (mask : KindSet) (count : ℕ) (row : Row) : Type 0 where
  pub kinds : HasKinds mask row
  pub low : row.entity.index < count
  pub unused : NoneOf row.entity.index tables

-- rows may be added one after another
abbrev pub CanTake : Tables → KindSet → ℕ → List Row → Type 0
CanTake tables mask count [] = Unit {0}
CanTake tables mask count (r ∷ rs) = IsTakable tables mask count r × CanTake (with_row tables r) mask count rs

-- the tables with rows added one after another
abbrev pub taken : Tables → List Row → Tables
taken tables [] = tables
taken tables (r ∷ rs) = taken (with_row tables r) rs

-- tables of distinct kind sets, each row of its own, and each of another index below a count
pub record AreStorable (count : ℕ) (ts : List (KindSet × List Row)) : Type 0 where
  pub apart : IsDistinct (eq_by_cmp nat_cmp) (keys ts)
  pub kinds : AllByRecursion (λ t. AllByRecursion (HasKinds t.0) t.1) ts
  pub low : list_all (λ r. nat_lt r.entity.index count) (flat ts) ≡ true
  pub once : are_distinct nat_eq (each (λ r. r.entity.index) (flat ts)) ≡ true

-- ---- links

-- children may be put under a parent that has none
pub record CanHang (f : Forest) (p : Entity) (cs : List Entity) : Type 0 where
  pub forest : IsForest (with_children f p cs)
  pub single : AllLinked (IsAlone (with_children f p cs)) (with_children f p cs)
  pub none : children_of f p ≡ []

-- lists of distinct parents whose links are a forest, in which entities have indices of their own
pub record AreLinkable (ls : List (Entity × List Entity)) : Type 0 where
  pub apart : IsDistinct is_same (keys ls)
  pub forest : IsForest (forest_of ls)
  pub single : AllLinked (IsAlone (forest_of ls)) (forest_of ls)

-- ---- a world of parts

-- the world, where no rule is broken
abbrev pub unless_broken : Option ℕ → World → Result World Refusal
unless_broken None w = Ok w
unless_broken (Some rule) w = Err (refusal_of (BadWorld rule))

-- the world of parts, or the first rule that they break
abbrev pub made : Parts → Result World Refusal
made p = unless_broken (first_broken p) (world_of p)
