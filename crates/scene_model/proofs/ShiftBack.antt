-- A row that moves to another table, and one that moves back to its place, keep a valid world valid and come back.
use Rattle.std.proofs.Common.{◌≡◌, ℕ, ◌≤◌, Bool, true, false, not, List, [], ◌∷◌, ◌++◌, length, refl, ap, subst, sym, ◌∙◌, Some}
use Rattle.std.specs.Cmp.{nat_cmp_total}
use Rattle.std.specs.FinMap.{nat_cmp-IsAntisymmetric}
use Rattle.std.proofs.Math.Bool.{not-not}
use Rattle.std.proofs.lemmas.Option.{slice_get_within}
use Rattle.scene_kinds.specs.declared.entity.Entity.{Entity}
use Rattle.scene_kinds.specs.declared.cell.Cell.{Cell}
use Rattle.scene_kinds.specs.declared.cells.Row.{Row}
use Rattle.scene_kinds.specs.Cells.{mask_of}
use Rattle.scene_kinds.proofs.Lists.{list_at_same, list_at_apart}
use Rattle.scene_alloc.specs.Ends.{last}
use Rattle.scene_alloc.proofs.SlotLaws.{last-push}
use Rattle.scene_links.proofs.LinkLaws.{case_same}
use Rattle.scene_table.specs.Rows.{swap_out}
use Rattle.scene_table.proofs.Swaps.{swap_out_place}
use Rattle.scene_table.specs.declared.home.Home.{Home}
use Rattle.scene_model.specs.World.{World, row_of}
use Rattle.scene_table.specs.Tables.{Tables, rows_at, row_at, lives, with_row, without_row, row_for, home_for, with_row_back}
use Rattle.scene_model.specs.Commands.{after_move}
use Rattle.scene_model.specs.Valid.{IsValid, IsSoundRow}
use Rattle.scene_model.specs.Raw.{listed_cells, cells_of, shifted, shift_row, unshift_row}
use Rattle.scene_model.specs.RawLaws.{ShiftedRowsComeBack}
use Rattle.scene_model.proofs.CanParts.{HasRow, HasLastRow, AreGoodCells, CanMove, CanShift, CanUnshift, shift, unshift, each_tested}
use Rattle.scene_model.proofs.GoodCells.{found_good, good_cells, good_shifted, row_of_good}
use Rattle.scene_table.proofs.Homes.{live_here}
use Rattle.scene_table.proofs.Lives.{lives_removed}
use Rattle.scene_model.proofs.MoveKeeps.{with_tables, moved_keeps, tables_valid}
use Rattle.scene_table.proofs.ReturnedRows.{row_back, row_out_again, returned_there, each_returned, once_returned, lives_returned}
use Rattle.scene_model.proofs.LastRows.{pushed_row_out, next_home, last_home, last_row_there, last_row_again}
use Rattle.scene_model.proofs.RowOf.{made_by_row, row_stands, row_there}
use Rattle.scene_table.proofs.Standing.{added_there, each_removed, once_removed, removed_nowhere}
use Rattle.scene_model.proofs.ShiftedCells.{HasMoved, cell_put, cell_gone, shifted_back, shifted_mask}

-- ---- cells that may move

has_moved : (w : World) (cells : List (ℕ × Cell)) (kind : ℕ) (c : Cell) (inward : Bool) → CanMove w cells kind c inward → HasMoved cells kind c inward
has_moved w cells kind c true moves = moves.absent
has_moved w cells kind c false moves = moves

-- a cell that moved one way may move the other
may_move_back : (w : World) (t : Tables) (cells : List (ℕ × Cell)) (kind : ℕ) (c : Cell) (inward : Bool) → AreGoodCells w cells → CanMove w cells kind c inward
    → CanMove (with_tables w t) (shifted cells kind c inward) kind c (not inward)
may_move_back w t cells kind c true good moves = cell_put cells kind c
may_move_back w t cells kind c false good moves =
    let was = found_good w cells kind c good moves in
    record { absent = cell_gone cells kind; good = record { fits = was.fits; timely = was.timely } }

-- ---- shift

module _ (w : World) (e : Entity) (place kind : ℕ) (cell : Cell) (inward : Bool) (cells : List (ℕ × Cell)) (v : IsValid w) (has : HasRow w e place cells) (moves : CanMove w cells kind cell inward) where
  abbrev to_cells : List (ℕ × Cell)
  to_cells = shifted cells kind cell inward

  abbrev tables_left : Tables
  tables_left = without_row w.tables (home_for cells place)

  abbrev tables_moved : Tables
  tables_moved = with_row tables_left (row_for e to_cells)

  shift_is : shift_row w e kind cell inward ≡ with_tables w tables_moved
  shift_is = made_by_row w e (home_for cells place) (row_for e cells) (λ h row. with_tables w (after_move w.tables h row (shifted row.cells kind cell inward))) has

  shift_there : row_at w.tables (home_for cells place) ≡ Some (row_for e cells)
  shift_there = (row_there w e (home_for cells place) (row_for e cells) has).0

  shift_good : AreGoodCells w cells
  shift_good = good_cells w w.slots (mask_of cells) (row_for e cells) (v.rows.each (home_for cells place) (row_for e cells) shift_there)

  shift_other : mask_of to_cells ≡ mask_of cells → ⊥
  shift_other = shifted_mask cells kind cell inward shift_good.ascending (has_moved w cells kind cell inward moves)

  shift_same : shifted to_cells kind cell (not inward) ≡ cells
  shift_same = shifted_back cells kind cell inward shift_good.ascending (has_moved w cells kind cell inward moves)

  shift_keeps : IsValid (with_tables w tables_moved)
  shift_keeps =
      let good = good_shifted w cells kind cell inward shift_good moves in
      moved_keeps w (home_for cells place) (row_for e cells) to_cells v shift_there (row_of_good w e to_cells good) good.timely

  shift_stands : row_of (with_tables w tables_moved) e ≡ Some (next_home tables_left (row_for e to_cells), row_for e to_cells)
  shift_stands = row_stands (with_tables w tables_moved) e (next_home tables_left (row_for e to_cells)) (row_for e to_cells) shift_keeps.rows.once (added_there tables_left (row_for e to_cells)) refl

  shift_last : HasLastRow (with_tables w tables_moved) e to_cells
  shift_last =
      let rows = rows_at tables_left (mask_of to_cells) in
      ap last (list_at_same nat_cmp_total tables_left (mask_of to_cells) (rows ++ row_for e to_cells ∷ [])) ∙ last-push rows (row_for e to_cells)

  shift_within : place ≤ length (rows_at tables_moved (mask_of cells))
  shift_within =
      let rows = rows_at w.tables (mask_of cells) in
      let there = list_at_apart nat_cmp_total nat_cmp-IsAntisymmetric tables_left (mask_of to_cells) (mask_of cells) (rows_at tables_left (mask_of to_cells) ++ row_for e to_cells ∷ []) (λ s. shift_other (sym s))
      ∙ list_at_same nat_cmp_total w.tables (mask_of cells) (swap_out rows place) in
      subst (λ (rs : List Row). place ≤ length rs) (sym there) (swap_out_place rows place (slice_get_within rows place (row_for e cells) shift_there))

  shift_can_come_back : CanUnshift (with_tables w tables_moved) e place kind cell inward
  shift_can_come_back =
      let u = with_tables w tables_moved in
      let now : cells_of u e ≡ to_cells = ap listed_cells shift_stands in
      record {
        row = subst (HasLastRow u e) (sym now) shift_last;
        moves = subst (λ cs. CanMove u cs kind cell (not inward)) (sym now) (may_move_back w tables_moved cells kind cell inward shift_good moves);
        within = subst (λ (cs : List (ℕ × Cell)). place ≤ length (rows_at tables_moved (mask_of (shifted cs kind cell (not inward))))) (sym now)
            (subst (λ (cs : List (ℕ × Cell)). place ≤ length (rows_at tables_moved (mask_of cs))) (sym shift_same) shift_within);
      }

  shift_comes_back : unshift_row (with_tables w tables_moved) e place kind cell inward ≡ w
  shift_comes_back =
      made_by_row (with_tables w tables_moved) e (next_home tables_left (row_for e to_cells)) (row_for e to_cells)
      (λ h row. with_tables w (with_row_back (without_row tables_moved h) place (row_for row.entity (shifted row.cells kind cell (not inward))))) shift_stands
      ∙ ap (with_tables w) (ap (λ t. with_row_back t place (row_for e (shifted to_cells kind cell (not inward)))) (pushed_row_out tables_left (row_for e to_cells))
      ∙ ap (λ cs. with_row_back tables_left place (row_for e cs)) shift_same
      ∙ row_back w.tables place (row_for e cells) shift_there)

-- ---- unshift

module _ (w : World) (e : Entity) (place kind : ℕ) (cell : Cell) (inward : Bool) (cells : List (ℕ × Cell)) (v : IsValid w) (has : HasLastRow w e cells) (moves : CanMove w cells kind cell (not inward))
    (within : place ≤ length (rows_at w.tables (mask_of (shifted cells kind cell (not inward))))) where
  abbrev from_cells : List (ℕ × Cell)
  from_cells = shifted cells kind cell (not inward)

  abbrev home : Home
  home = last_home w.tables (row_for e cells)

  abbrev tables_out : Tables
  tables_out = without_row w.tables home

  abbrev tables_back : Tables
  tables_back = with_row_back tables_out place (row_for e from_cells)

  unshift_there : row_at w.tables home ≡ Some (row_for e cells)
  unshift_there = last_row_there w.tables (row_for e cells) has

  unshift_is : unshift_row w e place kind cell inward ≡ with_tables w tables_back
  unshift_is = made_by_row w e home (row_for e cells)
      (λ h row. with_tables w (with_row_back (without_row w.tables h) place (row_for row.entity (shifted row.cells kind cell (not inward)))))
      (row_stands w e home (row_for e cells) v.rows.once unshift_there refl)

  unshift_sound : IsSoundRow w.schema w.slots w.tick (mask_of cells) (row_for e cells)
  unshift_sound = v.rows.each home (row_for e cells) unshift_there

  unshift_good : AreGoodCells w cells
  unshift_good = good_cells w w.slots (mask_of cells) (row_for e cells) unshift_sound

  unshift_within : place ≤ length (rows_at tables_out (mask_of from_cells))
  unshift_within =
      let other = shifted_mask cells kind cell (not inward) unshift_good.ascending (has_moved w cells kind cell (not inward) moves) in
      subst (λ (rs : List Row). place ≤ length rs) (sym (list_at_apart nat_cmp_total nat_cmp-IsAntisymmetric w.tables (mask_of cells) (mask_of from_cells) (swap_out (rows_at w.tables (mask_of cells)) home.place) other)) within

  unshift_same : shifted from_cells kind cell inward ≡ cells
  unshift_same = subst (λ b. shifted from_cells kind cell b ≡ cells) (not-not inward)
      (shifted_back cells kind cell (not inward) unshift_good.ascending (has_moved w cells kind cell (not inward) moves))

  unshift_stood : row_at tables_back (home_for from_cells place) ≡ Some (row_for e from_cells)
  unshift_stood = returned_there tables_out place (row_for e from_cells) unshift_within

  unshift_keeps : IsValid (with_tables w tables_back)
  unshift_keeps =
      let Sound = IsSoundRow w.schema w.slots w.tick in
      let good = good_shifted w cells kind cell (not inward) unshift_good moves in
      tables_valid w tables_back v
      (record {
        each = each_returned Sound tables_out place (row_for e from_cells) unshift_within (each_removed Sound w.tables home (row_for e cells) unshift_there v.rows.each)
            (record { current = unshift_sound.current; busy = unshift_sound.busy; fits = row_of_good w e from_cells good; timely = good.timely });
        once = once_returned tables_out place (row_for e from_cells) unshift_within (once_removed w.tables home (row_for e cells) unshift_there v.rows.once)
            (removed_nowhere w.tables home (row_for e cells) unshift_there v.rows.once);
      })
      (λ x l. case_same (lives tables_back x ≡ true) e x
      (λ s. live_here tables_back x (home_for from_cells place) (row_for e from_cells) unshift_stood s)
      (λ ne. lives_returned tables_out place (row_for e from_cells) x (lives_removed w.tables home (row_for e cells) x unshift_there ne l)))

  unshift_stands : row_of (with_tables w tables_back) e ≡ Some (home_for from_cells place, row_for e from_cells)
  unshift_stands = row_stands (with_tables w tables_back) e (home_for from_cells place) (row_for e from_cells) unshift_keeps.rows.once unshift_stood refl

  unshift_can_come_back : CanShift (with_tables w tables_back) e place kind cell inward
  unshift_can_come_back =
      let u = with_tables w tables_back in
      let now : cells_of u e ≡ from_cells = ap listed_cells unshift_stands in
      record {
        row = subst (HasRow u e place) (sym now) unshift_stands;
        moves = subst (λ cs. CanMove u cs kind cell inward) (sym now)
            (subst (CanMove u from_cells kind cell) (not-not inward) (may_move_back w tables_back cells kind cell (not inward) unshift_good moves));
      }

  unshift_comes_back : shift_row (with_tables w tables_back) e kind cell inward ≡ w
  unshift_comes_back =
      made_by_row (with_tables w tables_back) e (home_for from_cells place) (row_for e from_cells)
      (λ h row. with_tables w (after_move tables_back h row (shifted row.cells kind cell inward))) unshift_stands
      ∙ ap (with_tables w) (ap (λ t. with_row t (row_for e (shifted from_cells kind cell inward))) (row_out_again tables_out place (row_for e from_cells) unshift_within)
      ∙ ap (λ cs. with_row tables_out (row_for e cs)) unshift_same
      ∙ last_row_again w.tables (row_for e cells) has)

pub shifted_rows_come_back : ShiftedRowsComeBack
shifted_rows_come_back e place kind cell inward = each_tested (λ w. shift w e place kind cell inward) (λ w. unshift w e place kind cell inward) (
  record {
    keeps = λ w v can. subst IsValid (sym (shift_is w e place kind cell inward (cells_of w e) v can.row can.moves)) (shift_keeps w e place kind cell inward (cells_of w e) v can.row can.moves);
    can_come_back = λ w v can. subst (λ u. CanUnshift u e place kind cell inward) (sym (shift_is w e place kind cell inward (cells_of w e) v can.row can.moves)) (shift_can_come_back w e place kind cell inward (cells_of w e) v can.row can.moves);
    comes_back = λ w v can. ap (λ u. unshift_row u e place kind cell inward) (shift_is w e place kind cell inward (cells_of w e) v can.row can.moves) ∙ shift_comes_back w e place kind cell inward (cells_of w e) v can.row can.moves;
  },
  record {
    keeps = λ w v can. subst IsValid (sym (unshift_is w e place kind cell inward (cells_of w e) v can.row can.moves can.within)) (unshift_keeps w e place kind cell inward (cells_of w e) v can.row can.moves can.within);
    can_come_back = λ w v can. subst (λ u. CanShift u e place kind cell inward) (sym (unshift_is w e place kind cell inward (cells_of w e) v can.row can.moves can.within)) (unshift_can_come_back w e place kind cell inward (cells_of w e) v can.row can.moves can.within);
    comes_back = λ w v can. ap (λ u. shift_row u e kind cell inward) (unshift_is w e place kind cell inward (cells_of w e) v can.row can.moves can.within) ∙ unshift_comes_back w e place kind cell inward (cells_of w e) v can.row can.moves can.within;
  },
)
