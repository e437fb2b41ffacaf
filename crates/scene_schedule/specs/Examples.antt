-- Three kinds and systems over them for the worked examples.
use Rattle.std.specs.Prelude.{ℕ, List, [], ◌∷◌, codes, map, negsuc}
use Rattle.std.specs.List.{range_with_len}
use Rattle.scene_kinds.specs.declared.shape.Shape.TheVariants as shape
use Rattle.scene_kinds.specs.KindSet.{KindSet}
use Rattle.scene_kinds.specs.Schema.{Kinds}
use Rattle.scene_table.specs.declared.row_step.RowStep.TheVariants.{AddVec, AddInt}
use Rattle.scene_systems.specs.declared.step.Step.{Step}
use Rattle.scene_systems.specs.declared.step.Step.TheVariants.{Row, DespawnAtZero, CountInto}
use Rattle.scene_systems.specs.declared.system_rule.SystemRule.{SystemRule}

-- the vectors P and V, which are kinds 0 and 1, and the number N, which is kind 2
abbrev pub three_kinds : Kinds
three_kinds = (codes "P", shape.Vec3) ∷ (codes "V", shape.Vec3) ∷ (codes "N", shape.Int) ∷ []

-- a system that needs these kinds and does these steps
abbrev pub doing : KindSet → List Step → SystemRule
doing need steps = record { name = codes "s"; filter = record { need = need; without = 0 }; steps = steps }

-- it moves P by V
abbrev pub move : SystemRule
move = doing 3 (Row (AddVec 0 1) ∷ [])

-- it counts N down, and how many rows have it
abbrev pub count_down : SystemRule
count_down = doing 4 (Row (AddInt 2 (negsuc 0)) ∷ CountInto (codes "left") ∷ [])

-- it ends the rows whose N is 0
abbrev pub end_at_zero : SystemRule
end_at_zero = doing 4 (DespawnAtZero 2 ∷ [])

-- it does nothing, which is too little
abbrev pub idle : SystemRule
idle = doing 0 []

-- so many phases without systems
abbrev pub empty_phases : ℕ → List (List SystemRule)
empty_phases count = map (λ at. []) (range_with_len 0 count)
