use Rattle.std.proofs.Common.{◌≡◌, ◌∙◌, ℕ, ap, arith, subst, sym}
use Rattle.std.specs.Prelude.{option_map}
use Rattle.std.proofs.lemmas.Option.{same_Some}
use Rattle.scene_kinds.specs.declared.entity.Entity.{Entity}
use Rattle.scene_kinds.specs.declared.cell.Cell.{Cell}
use Rattle.scene_kinds.specs.declared.cells.Row.{Row}
use Rattle.scene_kinds.specs.Cells.{shown}
use Rattle.scene_deltas.proofs.RowCells.{counted}
use Rattle.scene_journal.proofs.Listed.{IsCellListed, cell_wider, cells_listed, one_more, wider_wider}
use Rattle.scene_journal.proofs.newest.NewestCells.add_row.Goals as goal

pub loop-number-preserved : goal.loop-number-preserved
loop-number-preserved c =
    let n = c.loop-number.self in
    let m = c.add.new.self in
    let x : ℕ × Cell = (c.nth_cell-kind.result.0, shown c.nth_cell-kind.result.1) in
    let wide = c.in_ok-add.ensures.wide in (
      λ row there.
          let same : row.entity ≡ c.entity_at-entity.result =
          same_Some row.entity c.entity_at-entity.result (sym (ap (option_map (λ (r : Row). r.entity)) there) ∙ c.entity_at-entity.ensures) in
          one_more (IsCellListed n row.entity) (IsCellListed m row.entity) row.cells c.loop-number.number x (cell_wider n m row.entity wide)
          (c.nth_cell-kind.ensures row there) (subst (λ (e : Entity). IsCellListed m e x) (sym same) c.in_ok-add.ensures.listed) (c.loop-number.invariant.0 row there),
      wider_wider c.args.self.now n m c.loop-number.invariant.1 wide,
    )

pub returns-clause-listed : goal.returns-clause-listed
returns-clause-listed c = λ row there.
    let count = counted c.args.table.now.rows c.args.at c.cell_count-number-end.result row c.cell_count-number-end.ensures.count there in
    let end = c.loop-number-test.false in
    cells_listed c.loop-number.self row.entity row.cells c.loop-number.number (omega (arith, count, end)) (c.loop-number.invariant.0 row there)
