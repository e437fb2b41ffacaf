-- The cells of a spawn that their own faults don't refuse.
use Rattle.std.proofs.Common.{◌≡◌, ℕ, List, true, None, ap, sym, ◌∙◌}
use Rattle.scene_alloc.specs.Slots.{take_of}
use Rattle.scene_kinds.specs.declared.cell.Cell.{Cell}
use Rattle.scene_kinds.specs.declared.value.Value.{Value}
use Rattle.scene_model.specs.Can.{are_good_cells}
use Rattle.scene_model.specs.World.{World}
use Rattle.scene_model.specs.Commands.{spawn_fault, new_cells, unless, after_take, spawn}
use Rattle.scene_model.proofs.CanParts.{cells_are_good}
use Rattle.scene_model.proofs.NewCells.{new_ascending, new_shapes, new_timely, spawn_tests}

-- they are cells that a row may have
pub new_are_good : (w : World) (given : List (ℕ × Value)) → spawn_fault w.schema given ≡ None → are_good_cells w (new_cells w.tick given) ≡ true
new_are_good w given passed = (cells_are_good w _).1 (record {
  ascending = new_ascending w.tick given;
  fit = new_shapes w.schema w.tick given (spawn_tests w.schema given passed).2;
  timely = new_timely w.tick given;
})

-- such a spawn takes a slot for its cells
pub spawned_is : (w : World) (given : List (ℕ × Value)) (cells : List (ℕ × Cell)) → spawn_fault w.schema given ≡ None → cells ≡ new_cells w.tick given → spawn w given ≡ after_take w cells (take_of w.slots)
spawned_is w given cells passed made =
    ap (λ o. unless o (after_take w (new_cells w.tick given) (take_of w.slots))) passed ∙ ap (λ cs. after_take w cs (take_of w.slots)) (sym made)
