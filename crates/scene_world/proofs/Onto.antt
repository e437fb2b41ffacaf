-- The cells of a new row, made from the last that was given to the first.
use Rattle.std.proofs.Common.{◌≡◌, ℕ, List, [], ◌∷◌, ◌++◌, refl, ap}
use Rattle.scene_kinds.specs.declared.cell.Cell.{Cell}
use Rattle.scene_kinds.specs.declared.value.Value.{Value}
use Rattle.scene_kinds.specs.Cells.{with_cell, new_cell}
use Rattle.scene_model.specs.Commands.{new_cells}
use Rattle.scene_world.specs.Onto.{cells_onto}

pub onto_last : (tick : ℕ) (cs : List (ℕ × Value)) (c : ℕ × Value) (cells : List (ℕ × Cell)) → cells_onto tick (cs ++ c ∷ []) cells ≡ cells_onto tick cs (with_cell cells c.0 (new_cell tick c.1))
onto_last tick [] c cells = refl
onto_last tick (x ∷ cs) c cells = ap (λ (es : List (ℕ × Cell)). with_cell es x.0 (new_cell tick x.1)) (onto_last tick cs c cells)

pub onto_none : (tick : ℕ) (cs : List (ℕ × Value)) → cells_onto tick cs [] ≡ new_cells tick cs
onto_none tick [] = refl
onto_none tick (x ∷ cs) = ap (λ (es : List (ℕ × Cell)). with_cell es x.0 (new_cell tick x.1)) (onto_none tick cs)

pub ruleset steps = (onto_last, onto_none)
