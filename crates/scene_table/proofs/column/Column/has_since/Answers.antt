use Rattle.std.proofs.Common.{◌≡◌, ◌∙◌, length, ap, sym, arith}
use Rattle.std.specs.Prelude.{slice_range}
use Rattle.std.specs.List.{list_any}
use Rattle.scene_table.specs.Since.{is_since}
use Rattle.scene_table.proofs.ColumnCells.{length-cells_of, any_added, any_changed}
use Rattle.scene_table.proofs.column.Column.has_since.Goals as goal

pub any_after-requires : goal.any_after-requires
any_after-requires c =
    let n : length c.args.self.now.cells ≡ length c.self.inside.values.items = ap (λ t. length t.cells) (sym c.self.view_is) ∙ length-cells_of _ _ _ c.self.invariant in
    (c.requires.0, omega (arith, c.requires.1, c.self.invariant.ticks_added))

pub any_after-requires-in-Changed : goal.any_after-requires-in-Changed
any_after-requires-in-Changed c =
    let n : length c.args.self.now.cells ≡ length c.self.inside.values.items = ap (λ t. length t.cells) (sym c.self.view_is) ∙ length-cells_of _ _ _ c.self.invariant in
    (c.requires.0, omega (arith, c.requires.1, c.self.invariant.ticks_changed))

pub returns-in-Added : goal.returns-in-Added
returns-in-Added c =
    c.any_after.ensures ∙ sym (any_added _ _ _ c.self.invariant c.in-Added.tick c.args.from c.args.to)
    ∙ (λ i. list_any (is_since (sym c.in-Added.is i)) (slice_range (c.self.view_is i).cells c.args.from c.args.to))

pub returns-in-Changed : goal.returns-in-Changed
returns-in-Changed c =
    c.any_after-in-Changed.ensures ∙ sym (any_changed _ _ _ c.self.invariant c.in-Changed.tick c.args.from c.args.to)
    ∙ (λ i. list_any (is_since (sym c.in-Changed.is i)) (slice_range (c.self.view_is i).cells c.args.from c.args.to))
