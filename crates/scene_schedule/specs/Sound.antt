-- What a schedule promises, of each phase, of each system and of each two systems.
use Rattle.std.specs.Prelude.{◌≡◌, ◌≤◌, ◌<◌, ℕ, List, Some, IsTrue, length, slice_get}
use Rattle.scene_kinds.specs.Schema.{Kinds}
use Rattle.scene_systems.specs.declared.system_rule.SystemRule.{SystemRule}
use Rattle.scene_schedule.specs.Schedule.{writes, touches, is_good_rule}

-- neither of two systems writes a kind that the other reads or writes
abbrev pub AreApart : SystemRule → SystemRule → Type 0
AreApart a b = (kind : ℕ) → (IsTrue (writes a kind) → IsTrue (touches b kind) → ⊥) × (IsTrue (writes b kind) → IsTrue (touches a kind) → ⊥)

-- a phase has at most 64 systems, each of which a schedule may have, and no two that are in each other's way
pub record IsSoundPhase (schema : Kinds) (rules : List SystemRule) : Type 0 where
  pub few : length rules ≤ 64
  pub good : (at : ℕ) (rule : SystemRule) → slice_get rules at ≡ Some rule → IsTrue (is_good_rule schema rule)
  pub apart : (first second : ℕ) (a b : SystemRule) → first < second → slice_get rules first ≡ Some a → slice_get rules second ≡ Some b → AreApart a b

-- there are at most 64 phases, and each is such a one
pub record IsSound (schema : Kinds) (phases : List (List SystemRule)) : Type 0 where
  pub few : length phases ≤ 64
  pub each : (at : ℕ) (rules : List SystemRule) → slice_get phases at ≡ Some rules → IsSoundPhase schema rules
