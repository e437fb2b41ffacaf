use Rattle.std.proofs.Common.{ℕ, List, Some, ◌∙◌, ap, subst, sym}
use Rattle.scene_kinds.specs.declared.cell.Cell.{Cell}
use Rattle.scene_kinds.specs.Cells.{IsAscending, IsPlaceOf, IsTakenAt, cell_of, without_cell}
use Rattle.scene_kinds.specs.Held.{held_cells}
use Rattle.scene_kinds.proofs.CellLaws.{none_taken}
use Rattle.scene_kinds.proofs.cells.Cells.remove.Goals as goal

pub returns-in_err-at-clause-rest : goal.returns-in_err-at-clause-rest
returns-in_err-at-clause-rest c = sym (none_taken c.args.self.now c.args.kind (let h = c.in_err-at.ensures.none in cc))

pub returns-clause-value : goal.returns-clause-value
returns-clause-value c =
    let items = held_cells c.self.inside.held in
    let at : IsPlaceOf items c.args.kind c.in_ok-at.at = subst (λ (l : List (ℕ × Cell)). IsPlaceOf l c.args.kind c.in_ok-at.at) c.as_slice.ensures c.in_ok-at.ensures.some in
    ap (λ (x : ℕ × Cell). Some x.1) c.remove-cell.ensures.value ∙ sym (at.found c.remove-cell.result)
    ∙ ap (λ (l : List (ℕ × Cell)). cell_of l c.args.kind) c.self.view_is

pub returns-clause-rest : goal.returns-clause-rest
returns-clause-rest c =
    let items = held_cells c.self.inside.held in
    let taken : IsTakenAt c.args.kind items c.in_ok-at.at = subst (λ (l : List (ℕ × Cell)). IsTakenAt c.args.kind l c.in_ok-at.at) c.as_slice.ensures c.in_ok-at.ensures.taken in
    c.remove-cell.ensures.items ∙ taken (subst IsAscending (sym c.self.view_is) c.requires)
    ∙ ap (λ (l : List (ℕ × Cell)). without_cell l c.args.kind) c.self.view_is
