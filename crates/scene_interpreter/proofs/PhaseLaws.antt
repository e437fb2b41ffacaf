-- Where a system goes.
use Rattle.std.proofs.Common.{◌≡◌, List, [], ◌∷◌, ◌++◌, refl, ap}
use Rattle.scene_systems.specs.declared.system_rule.SystemRule.{SystemRule}
use Rattle.scene_interpreter.specs.Phases.{with_system}

-- it goes into the phase that stands last
pub put_last : (phases : List (List SystemRule)) (phase : List SystemRule) (rule : SystemRule)
    → with_system (phases ++ phase ∷ []) rule ≡ phases ++ (phase ++ rule ∷ []) ∷ []
put_last [] phase rule = refl
put_last (p ∷ []) phase rule = refl
put_last (p ∷ q ∷ ps) phase rule = ap (λ rest. p ∷ rest) (put_last (q ∷ ps) phase rule)
