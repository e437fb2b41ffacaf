-- What a filter matches.
use Rattle.std.specs.Prelude.{◌≡◌, ℕ, Bool, true, ◌&&◌}
use Rattle.scene_kinds.specs.KindSet.{KindSet, has_kind, is_subset, is_disjoint}
use Rattle.scene_systems.specs.declared.filter.Filter.{Filter}

-- a filter matches the kind sets that have every kind of `need` and none of `without`
abbrev pub is_match : Filter → KindSet → Bool
is_match filter mask = is_subset filter.need mask && is_disjoint mask filter.without

-- what that says of each kind
abbrev pub SaysEachKind : Filter → KindSet → Type 0
SaysEachKind filter mask = (kind : ℕ)
    → (has_kind filter.need kind ≡ true → has_kind mask kind ≡ true) × (has_kind filter.without kind ≡ true → has_kind mask kind ≡ true → ⊥)
