-- Deltas under a further kind: none reads the schema, so each does the same to the world with it; and where one fits, it
-- still does.
use Rattle.std.proofs.Common.{◌≡◌, ℕ, Bool, true, false, ◌&&◌, List, [], ◌∷◌, refl, ap, sym, subst, ◌∙◌, Option, Some, None}
use Rattle.std.specs.Prelude.{not}
use Rattle.std.proofs.lemmas.Bool.{and_parts, and_from}
use Rattle.scene_kinds.specs.declared.cell.Cell.{Cell}
use Rattle.scene_kinds.specs.declared.cells.Row.{Row}
use Rattle.scene_kinds.specs.declared.entity.Entity.{Entity}
use Rattle.scene_kinds.specs.declared.shape.Shape.{Shape}
use Rattle.scene_table.specs.declared.home.Home.{Home}
use Rattle.scene_model.specs.World.{World, row_of}
use Rattle.scene_model.specs.Can.{are_good_cells, can_move, can_uncut, can_set_link, can_set_resource, is_good_cell}
use Rattle.scene_model.specs.Raw.{by_row}
use Rattle.scene_model.specs.RawLists.{MayAll, MayUndoAll, after_all, before_all}
use Rattle.scene_world.specs.FurtherKind.{with_kind_in}
use Rattle.scene_world.specs.Room.{Room, Holds}
use Rattle.scene_world.proofs.FurtherKind.{all_still, declared_held, fits_still}
use Rattle.scene_deltas.specs.declared.delta.Delta.{Delta}
use Rattle.scene_deltas.specs.declared.delta.Delta.TheVariants.{Spawned, Despawned, Shifted, CellSet, Linked, ResourceSet}
use Rattle.scene_deltas.specs.Deltas.{AllFitBack, AllFitOn, FitsBack, FitsOn, back, back_all, fwd, fwd_all}
use Rattle.scene_deltas.specs.Ready.{AreReady, AreReadyOn, IsReady, IsReadyOn}

-- ---- lists of changes that do the same to another world

module _ {D : Type 0} (other : World → World) (change : D → World → World) (same : (d : D) (w : World) → change d (other w) ≡ other (change d w)) where
  pub after_other : (ds : List D) (w : World) → after_all change ds (other w) ≡ other (after_all change ds w)
  after_other [] w = refl
  after_other (d ∷ ds) w = ap (after_all change ds) (same d w) ∙ after_other ds (change d w)

  pub before_other : (ds : List D) (w : World) → before_all change ds (other w) ≡ other (before_all change ds w)
  before_other [] w = refl
  before_other (d ∷ ds) w = ap (change d) (before_other ds w) ∙ same d (before_all change ds w)

  module _ (may : D → World → Type 0) (still : (d : D) (w : World) → may d w → may d (other w)) where
    pub may_other : (ds : List D) (w : World) → MayAll may change ds w → MayAll may change ds (other w)
    may_other [] w h = tt
    may_other (d ∷ ds) w h = (still d w h.0, subst (MayAll may change ds) (sym (same d w)) (may_other ds (change d w) h.1))

    pub undo_other : (ds : List D) (w : World) → MayUndoAll may change ds w → MayUndoAll may change ds (other w)
    undo_other [] w h = tt
    undo_other (d ∷ ds) w h = (undo_other ds w h.0, subst (may d) (sym (before_other ds w)) (still d (before_all change ds w) h.1))

-- ---- tests of which a part asks for less

left_still : (a b c : Bool) → (a ≡ true → b ≡ true) → (a && c) ≡ true → (b && c) ≡ true
left_still a b c still h = let parts = and_parts a c h in and_from b c (still parts.0) parts.1

right_still : (c a b : Bool) → (a ≡ true → b ≡ true) → (c && a) ≡ true → (c && b) ≡ true
right_still c a b still h = let parts = and_parts c a h in and_from c b parts.0 (still parts.1)

-- ---- one delta

module _ (name : List ℕ) (shape : Shape) where
  abbrev also : World → World
  also w = with_kind_in name shape w

  by_row_also : (w : World) (o : Option (Home × Row)) (f g : Home → Row → World) → ((h : Home) (row : Row) → g h row ≡ also (f h row))
      → by_row (also w) o g ≡ also (by_row w o f)
  by_row_also w None f g same = refl
  by_row_also w (Some p) f g same = same p.0 p.1

  pub fwd_also : (d : Delta) (w : World) → fwd d (also w) ≡ also (fwd d w)
  fwd_also (Spawned e cells fresh) w = refl
  fwd_also (Despawned e place cells link retired) w = by_row_also w (row_of w e) _ _ (λ h row. refl)
  fwd_also (Shifted e place kind cell inward) w = by_row_also w (row_of w e) _ _ (λ h row. refl)
  fwd_also (CellSet e kind before after) w = by_row_also w (row_of w e) _ _ (λ h row. refl)
  fwd_also (Linked e before after) w = refl
  fwd_also (ResourceSet name before after) w = refl

  pub back_also : (d : Delta) (w : World) → back d (also w) ≡ also (back d w)
  back_also (Spawned e cells fresh) w = by_row_also w (row_of w e) _ _ (λ h row. refl)
  back_also (Despawned e place cells link retired) w = refl
  back_also (Shifted e place kind cell inward) w = by_row_also w (row_of w e) _ _ (λ h row. refl)
  back_also (CellSet e kind before after) w = by_row_also w (row_of w e) _ _ (λ h row. refl)
  back_also (Linked e before after) w = refl
  back_also (ResourceSet name before after) w = refl

  -- what may come still may
  good_also : (w : World) (kind : ℕ) (cell : Cell) → is_good_cell w kind cell ≡ true → is_good_cell (also w) kind cell ≡ true
  good_also w kind cell h = left_still _ _ _ (fits_still w.schema (name, shape) cell.value kind) h

  cells_also : (w : World) (cells : List (ℕ × Cell)) → are_good_cells w cells ≡ true → are_good_cells (also w) cells ≡ true
  cells_also w cells h = right_still _ _ _ (all_still _ _ (λ (c : ℕ × Cell). good_also w c.0 c.1) cells) h

  move_also : (w : World) (cells : List (ℕ × Cell)) (kind : ℕ) (cell : Cell) (inward : Bool) → can_move w cells kind cell inward ≡ true → can_move (also w) cells kind cell inward ≡ true
  move_also w cells kind cell true h = right_still _ _ _ (good_also w kind cell) h
  move_also w cells kind cell false h = h

  uncut_also : (w : World) (e : Entity) (place : ℕ) (cells : List (ℕ × Cell)) (link : Option (Entity × ℕ)) (retired : Bool)
      → can_uncut w e place cells link retired ≡ true → can_uncut (also w) e place cells link retired ≡ true
  uncut_also w e place cells None retired h = left_still _ _ _ (left_still _ _ _ (right_still _ _ _ (cells_also w cells))) h
  uncut_also w e place cells (Some l) retired h = left_still _ _ _ (left_still _ _ _ (right_still _ _ _ (cells_also w cells))) h

  link_also : (w : World) (e : Entity) (before after : Option (Entity × ℕ)) → can_set_link w e before after ≡ true → can_set_link (also w) e before after ≡ true
  link_also w e before None h = h
  link_also w e before (Some l) h = h

  resource_also : (w : World) (key : List ℕ) (before after : Option Cell) → can_set_resource w key before after ≡ true → can_set_resource (also w) key before after ≡ true
  resource_also w key before None h = h
  resource_also w key before (Some c) h = h

  pub fits_on_also : (d : Delta) (w : World) → FitsOn d w → FitsOn d (also w)
  fits_on_also (Spawned e cells fresh) w h = right_still _ _ _ (cells_also w cells) h
  fits_on_also (Despawned e place cells link retired) w h = h
  fits_on_also (Shifted e place kind cell inward) w h = right_still _ _ _ (move_also w _ kind cell inward) h
  fits_on_also (CellSet e kind before after) w h = right_still _ _ _ (good_also w kind after) h
  fits_on_also (Linked e before after) w h = link_also w e before after h
  fits_on_also (ResourceSet key before after) w h = resource_also w key before after h

  pub fits_back_also : (d : Delta) (w : World) → FitsBack d w → FitsBack d (also w)
  fits_back_also (Spawned e cells fresh) w h = h
  fits_back_also (Despawned e place cells link retired) w h = uncut_also w e place cells link retired h
  fits_back_also (Shifted e place kind cell inward) w h = left_still _ _ _ (right_still _ _ _ (move_also w _ kind cell (not inward))) h
  fits_back_also (CellSet e kind before after) w h = right_still _ _ _ (good_also w kind before) h
  fits_back_also (Linked e before after) w h = link_also w e after before h
  fits_back_also (ResourceSet key before after) w h = resource_also w key after before h

  -- where it is ready, it still is
  ready_also : (room : Room) (d : Delta) (w : World) → IsReady room d w → IsReady room d (also w)
  ready_also room d w h = record {
    fits = fits_back_also d w h.fits;
    held = subst (Holds room) (sym (back_also d w)) (declared_held room (back d w) name shape h.held);
  }

  ready_on_also : (room : Room) (d : Delta) (w : World) → IsReadyOn room d w → IsReadyOn room d (also w)
  ready_on_also room d w h = record {
    fits = fits_on_also d w h.fits;
    held = subst (Holds room) (sym (fwd_also d w)) (declared_held room (fwd d w) name shape h.held);
  }

  -- ---- deltas one after another

  pub fwd_all_also : (ds : List Delta) (w : World) → fwd_all ds (also w) ≡ also (fwd_all ds w)
  fwd_all_also = after_other also fwd fwd_also

  pub back_all_also : (ds : List Delta) (w : World) → back_all ds (also w) ≡ also (back_all ds w)
  back_all_also = before_other also back back_also

  pub all_fit_on_also : (ds : List Delta) (w : World) → AllFitOn ds w → AllFitOn ds (also w)
  all_fit_on_also = may_other also fwd fwd_also FitsOn fits_on_also

  pub all_fit_back_also : (ds : List Delta) (w : World) → AllFitBack ds w → AllFitBack ds (also w)
  all_fit_back_also = undo_other also back back_also FitsBack fits_back_also

  pub are_ready_also : (room : Room) (ds : List Delta) (w : World) → AreReady room ds w → AreReady room ds (also w)
  are_ready_also room = undo_other also back back_also (IsReady room) (ready_also room)

  pub are_ready_on_also : (room : Room) (ds : List Delta) (w : World) → AreReadyOn room ds w → AreReadyOn room ds (also w)
  are_ready_on_also room = may_other also fwd fwd_also (IsReadyOn room) (ready_on_also room)
