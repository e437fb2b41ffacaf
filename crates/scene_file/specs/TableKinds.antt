-- What the walk knows of the kinds of a table.
use Rattle.std.specs.Prelude.{◌≡◌, ℕ, ◌<◌, List, [], ◌∷◌, true, Option, Some, nat_lt}
use Rattle.scene_json_forms.specs.Reading.{may_follow}

-- numbers below a bound, each above the one before
abbrev pub AreRising : ℕ → Option ℕ → List ℕ → Type 0
AreRising bound before [] = Unit {0}
AreRising bound before (k ∷ ks) = (k < bound) × (may_follow nat_lt before k ≡ true) × AreRising bound (Some k) ks
