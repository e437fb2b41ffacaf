-- The phases of systems that a script has made.
use Rattle.std.specs.Prelude.{List, [], ◌∷◌, ◌++◌}
use Rattle.scene_systems.specs.declared.system_rule.SystemRule.{SystemRule}

-- a further phase without systems
abbrev pub with_phase : List (List SystemRule) → List (List SystemRule)
with_phase phases = phases ++ [] ∷ []

-- a system goes last in the last phase; where there is no phase, it makes one
abbrev pub with_system : List (List SystemRule) → SystemRule → List (List SystemRule)
with_system [] rule = (rule ∷ []) ∷ []
with_system (phase ∷ []) rule = (phase ++ rule ∷ []) ∷ []
with_system (phase ∷ next ∷ phases) rule = phase ∷ with_system (next ∷ phases) rule
