use Rattle.std.proofs.Common.{◌≡◌, ℕ, ap, sym, ◌∙◌, List, [], ◌∷◌, length, Some, arith}
use Rattle.std.specs.Prelude.{slice_get}
use Rattle.std.proofs.lemmas.Option.{same_Some}
use Rattle.scene_kinds.specs.declared.cell.Cell.{Cell}
use Rattle.scene_kinds.specs.declared.cells.Row.{Row}
use Rattle.scene_kinds.specs.Cells.{with_cell}
use Rattle.std.specs.Option.{option_map}
use Rattle.scene_archetypes.proofs.places.room_for.Goals as goal

-- one cell alone
lone : (cells : List (ℕ × Cell)) (cell : ℕ × Cell) → length cells ≡ 1 → slice_get cells 0 ≡ Some cell → cell ∷ [] ≡ cells
lone [] cell one is = absurd (omega (arith, one))
lone (x ∷ []) cell one is = ap (λ y. y ∷ []) (same_Some cell x (sym is))
lone (x ∷ y ∷ ys) cell one is = absurd (omega (arith, one))

pub returns-then-not-is_text : goal.returns-then-not-is_text
returns-then-not-is_text c = λ row e.
    let count = same_Some (length row.cells) c.cell_count-count.result (sym (ap (option_map (λ (r : Row). length r.cells)) e) ∙ c.cell_count-count.ensures.count) in
    let one : length row.cells ≡ 1 = count ∙ c.if-count-eq1.true in
    c.in_ok-put.ensures.done ∙ ap (λ cells. with_cell cells c.nth_cell-kind.result.0 c.in_ok-try_to_cell.field-0) c.new-cells.ensures
    ∙ ap (λ cell. (c.nth_cell-kind.result.0, cell) ∷ []) c.in_ok-try_to_cell.ensures
    ∙ lone row.cells _ one (c.nth_cell-kind.ensures row e)
