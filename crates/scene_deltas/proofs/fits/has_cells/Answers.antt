use Rattle.std.proofs.Common.{◌≡◌, true, false, refl, sym, ◌∙◌}
use Rattle.scene_deltas.proofs.RowCells.{counted, one_more, one_same, all_same}
use Rattle.scene_deltas.proofs.fits.has_cells.Goals as goal

pub loop-i-init : goal.loop-i-init
loop-i-init c = λ row is. (c.if-items-cell_count.false ∙ sym (counted c.args.table.now.rows c.args.place _ row c.cell_count.ensures.count is), refl)

pub returns-then-not-is_entry : goal.returns-then-not-is_entry
returns-then-not-is_entry c = λ row is. (
  λ h. absurd (let no : false ≡ true = h in cc),
  λ same.
      let entry = one_same row.cells c.as_slice-items.result.now c.loop-i.i _ c.index-items-i.result (same ∙ sym c.as_slice-items.ensures) (c.nth_cell-kind.ensures row is) c.index-items-i.is in
      sym c.if-not-is_entry.true ∙ c.is_entry.ensures.1 entry,
)

pub loop-i-preserved : goal.loop-i-preserved
loop-i-preserved c = λ row is.
    let told = c.loop-i.invariant row is in
    (told.0, one_more row.cells c.as_slice-items.result.now c.loop-i.i _ c.index-items-i.result told.0 c.loop-i-test.true told.1 (c.nth_cell-kind.ensures row is) c.index-items-i.is (c.is_entry.ensures.0 c.if-not-is_entry.false))

pub returns : goal.returns
returns c = λ row is. let told = c.loop-i.invariant row is in (λ h. all_same row.cells c.as_slice-items.result.now c.loop-i.i told.0 told.1 c.loop-i-test.false ∙ c.as_slice-items.ensures, λ h. refl)
