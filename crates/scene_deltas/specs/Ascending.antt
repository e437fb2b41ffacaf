-- Cells whose kinds ascend, by comparing each kind with those after it.
use Rattle.std.specs.Prelude.{ℕ, Bool, true, ◌&&◌, List, [], ◌∷◌, nat_lt}
use Rattle.std.specs.List.{list_all}
use Rattle.scene_kinds.specs.declared.cell.Cell.{Cell}

-- each kind is below those after it
abbrev pub kinds_ascend : List (ℕ × Cell) → Bool
kinds_ascend [] = true
kinds_ascend (c ∷ cs) = list_all (λ d. nat_lt c.0 d.0) cs && kinds_ascend cs
