-- Components that ascend by kind, as those of most spawns do.
use Rattle.std.specs.Prelude.{ℕ, ◌+◌, List, [], ◌∷◌, Bool, true, not, ◌&&◌, ◌||◌, nat_lt}
use Rattle.scene_kinds.specs.declared.value.Value.{Value}
use Rattle.scene_kinds.specs.Schema.{Kinds, fits_kind}

-- the first kind is at least some number, and each later one is above the one before it
abbrev pub ascends_from : ℕ → List (ℕ × Value) → Bool
ascends_from least [] = true
ascends_from least (c ∷ cs) = not (nat_lt c.0 least) && ascends_from (c.0 + 1) cs

-- and each value fits its kind
abbrev pub is_usual_from : Kinds → ℕ → List (ℕ × Value) → Bool
is_usual_from schema least [] = true
is_usual_from schema least (c ∷ cs) = not (nat_lt c.0 least || not (fits_kind schema c.1 c.0)) && is_usual_from schema (c.0 + 1) cs
