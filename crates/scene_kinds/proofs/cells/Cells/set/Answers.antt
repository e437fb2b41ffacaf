use Rattle.std.proofs.Common.{ℕ, List, Some, ◌∙◌, ap, subst, sym}
use Rattle.scene_kinds.specs.declared.cell.Cell.{Cell}
use Rattle.scene_kinds.specs.Cells.{IsAscending, IsPlaceOf, cell_of, with_cell}
use Rattle.scene_kinds.specs.Held.{held_cells}
use Rattle.scene_kinds.proofs.Places.{put_at_place}
use Rattle.scene_kinds.proofs.cells.Cells.set.Goals as goal

pub returns-clause-old : goal.returns-clause-old
returns-clause-old c =
    let items = held_cells c.self.inside.held in
    let at : IsPlaceOf items c.args.kind c.in-Some.at = subst (λ (l : List (ℕ × Cell)). IsPlaceOf l c.args.kind c.in-Some.at) c.as_slice.ensures c.in-Some.ensures.some in
    sym (ap (λ (l : List (ℕ × Cell)). cell_of l c.args.kind) c.self.view_is) ∙ at.found (0, c.replace.result)
    ∙ ap (λ (x : Cell). Some x) (sym c.replace.ensures.value)

pub returns-clause-new : goal.returns-clause-new
returns-clause-new c =
    let items = held_cells c.self.inside.held in
    let at : IsPlaceOf items c.args.kind c.in-Some.at = subst (λ (l : List (ℕ × Cell)). IsPlaceOf l c.args.kind c.in-Some.at) c.as_slice.ensures c.in-Some.ensures.some in
    let up : IsAscending items = subst IsAscending (sym c.self.view_is) c.requires.ascending in
    c.replace.ensures.items ∙ put_at_place items c.args.kind c.in-Some.at c.args.cell (0, c.args.cell) up at.within (at.key (0, c.args.cell))
    ∙ ap (λ (l : List (ℕ × Cell)). with_cell l c.args.kind c.args.cell) c.self.view_is
