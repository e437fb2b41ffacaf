-- Marks of indices: whether each stands in a list.
use Rattle.std.specs.Prelude.{◌≡◌, ℕ, List, Bool, false, ◌&&◌, length, nat_eq, nat_lt, slice_index_or}
use Rattle.std.specs.List.{list_all, list_any}
use Rattle.scene_kinds.specs.declared.entity.Entity.{Entity}
use Rattle.scene_validate.specs.Rules.{are_distinct, is_current}

-- an index is marked; one behind the last isn't
abbrev pub is_marked : List Bool → ℕ → Bool
is_marked marks i = slice_index_or marks i false

-- there are so many marks, and just the indices of a list are marked
pub record AreMarks (count : ℕ) (indices : List ℕ) (marks : List Bool) : Type 0 where
  pub size : length marks ≡ count
  pub each : (i : ℕ) → is_marked marks i ≡ list_any (nat_eq i) indices

-- indices below a count, of which none stands twice
abbrev pub are_places : ℕ → List ℕ → Bool
are_places count indices = list_all (λ i. nat_lt i count) indices && are_distinct nat_eq indices

-- an entity has its slot's generation, and its index is marked
abbrev pub is_living : List ℕ → List Bool → Entity → Bool
is_living generations marks e = is_current generations e && is_marked marks e.index
