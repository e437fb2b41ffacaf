use Rattle.std.proofs.Common.{◌≡◌, ◌∙◌, ap, sym, Option, Some, None, refl, Err}
use Rattle.scene_kinds.specs.declared.cell.Cell.{Cell}
use Rattle.scene_kinds.specs.declared.refusal.Refusal.{Refusal}
use Rattle.scene_resources.specs.Resources.{NamedCells, cell_of, restore_of, taken}
use Rattle.scene_resources.proofs.ResourceLaws.{restore_of-cell_of}
use Rattle.scene_resources.proofs.resources.Resources.take.Goals as goal

none_left : (o : Option Cell) → ((x : Cell) → o ≡ Some x → ⊥) → o ≡ None
none_left None h = refl
none_left (Some x) h = absurd (h x refl)

pub returns-in_default-clause-cells : goal.returns-in_default-clause-cells
returns-in_default-clause-cells c =
    let r : NamedCells = c.args.self.now.cells in
    let none : cell_of r c.args.name.now ≡ None = sym c.restore_reserved.ensures.old ∙ none_left c.restore_reserved.result c.in_default.not-Some in (
      c.restore_reserved.ensures.done ∙ ap (restore_of r c.args.name.now) (sym none) ∙ restore_of-cell_of r c.args.name.now,
      ap (taken r c.args.name.now) none ∙ ap (λ (f : Refusal). Err f) (sym c.from.ensures),
    )
