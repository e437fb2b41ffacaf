use Rattle.std.proofs.Common.{◌≡◌, ◌∙◌, refl, ap, sym, is_some, false, Option, Some, None, option_copied, Bor}
use Rattle.scene_kinds.specs.declared.cell.Cell.{Cell}
use Rattle.scene_resources.specs.Resources.{NamedCells, StoredResources, cell_of, restore_of}
use Rattle.scene_resources.proofs.Cells.{cells_updated}
use Rattle.scene_resources.proofs.Names.{forgotten, not_forgotten}
use Rattle.scene_resources.proofs.ResourceLaws.{restore_of-cell_of}
use Rattle.scene_resources.proofs.resources.Resources.forget.Goals as goal

-- what was found, as a cell
some_copied : (o : Option (Bor Cell)) → is_some (option_copied o) ≡ is_some o
some_copied None = refl
some_copied (Some x) = refl

none_copied : (o : Option Cell) → is_some o ≡ false → o ≡ None
none_copied None h = refl
none_copied (Some x) h = absurd cc

-- the name has no cell
empty : (c : goal.Joined-place) → cell_of c.args.self.now.cells c.args.name.now ≡ None
empty c = none_copied _ (ap is_some (sym c.get.ensures.cell) ∙ some_copied c.get.result ∙ sym c.is_some.ensures ∙ c.if-is_some.false)

pub returns-clause-cells : goal.returns-clause-cells
returns-clause-cells c =
    let r : NamedCells = c.args.self.now.cells in
    cells_updated c.self.inside.cells c.remove-place.new.self r c.args.name.now None (ap (λ (s : StoredResources). s.cells) c.self.view_is) c.remove-place.ensures.updates
    ∙ ap (restore_of r c.args.name.now) (sym (empty c)) ∙ restore_of-cell_of r c.args.name.now

pub returns-clause-kept : goal.returns-clause-kept
returns-clause-kept c = forgotten c.self.inside.cells c.remove-place.new.self c.args.self.now c.args.name.now c.self.view_is (empty c) c.remove-place.ensures.updates

pub returns-then-is_some-clause-kept : goal.returns-then-is_some-clause-kept
returns-then-is_some-clause-kept c =
    not_forgotten c.args.self.now c.args.name.now c.get.ensures.held (ap is_some (sym c.get.ensures.cell) ∙ some_copied c.get.result ∙ sym c.if-is_some.ensures)
