-- The names of faults, by their numbers.
use Rattle.std.specs.Prelude.{ℕ, List, [], map, slice_get, unwrap_or}
use Rattle.scene_c.specs.declared.names.TheConstants.{FAULT_NAMES}

-- the name at a place, and none behind the last one
abbrev pub name_at : List (List ℕ) → ℕ → List ℕ
name_at names at = unwrap_or (slice_get names at) []

-- the name of the fault that has a number, and none where no fault of a scene has it
abbrev pub name_of : ℕ → List ℕ
name_of = name_at (map (λ name. name.now) FAULT_NAMES)
