-- Deltas and their lists take each other back, and keep the tick.
use Rattle.std.proofs.Common.{◌≡◌, List, [], ◌∷◌, refl, ◌∙◌, Option, Some, None}
use Rattle.scene_kinds.specs.declared.cells.Row.{Row}
use Rattle.scene_table.specs.declared.home.Home.{Home}
use Rattle.scene_model.specs.World.{World, row_of}
use Rattle.scene_model.specs.Raw.{by_row}
use Rattle.scene_model.proofs.CellBack.{cells_come_back}
use Rattle.scene_model.proofs.CutBack.{cut_rows_come_back}
use Rattle.scene_model.proofs.LinkBack.{links_come_back}
use Rattle.scene_model.proofs.ListBack.{lists_come_back}
use Rattle.scene_model.proofs.PutBack.{rows_come_back}
use Rattle.scene_model.proofs.ResourceBack.{resources_come_back}
use Rattle.scene_model.proofs.ShiftBack.{shifted_rows_come_back}
use Rattle.scene_deltas.specs.declared.delta.Delta.{Delta}
use Rattle.scene_deltas.specs.declared.delta.Delta.TheVariants.{Spawned, Despawned, Shifted, CellSet, Linked, ResourceSet}
use Rattle.scene_deltas.specs.Deltas.{fwd, back, fwd_all, back_all}
use Rattle.scene_deltas.specs.Laws.{DeltasComeBack, DeltaListsComeBack}

-- ---- taken back

pub deltas_come_back : DeltasComeBack
deltas_come_back (Spawned e cells fresh) = rows_come_back e cells fresh
deltas_come_back (Despawned e place cells link retired) = cut_rows_come_back e place cells link retired
deltas_come_back (Shifted e place kind cell inward) = shifted_rows_come_back e place kind cell inward
deltas_come_back (CellSet e kind before after) = (cells_come_back e kind before after, cells_come_back e kind after before)
deltas_come_back (Linked e before after) = (links_come_back e before after, links_come_back e after before)
deltas_come_back (ResourceSet name before after) = (resources_come_back name before after, resources_come_back name after before)

pub delta_lists_come_back : DeltaListsComeBack
delta_lists_come_back = lists_come_back _ _ _ _ deltas_come_back

-- ---- the tick

-- what is made of a row's world keeps the tick, where the change does
row_keeps_tick : (w : World) (o : Option (Home × Row)) (change : Home → Row → World) → ((h : Home) (r : Row) → (change h r).tick ≡ w.tick) → (by_row w o change).tick ≡ w.tick
row_keeps_tick w None change keeps = refl
row_keeps_tick w (Some p) change keeps = keeps p.0 p.1

fwd_keeps_tick : (d : Delta) (w : World) → (fwd d w).tick ≡ w.tick
fwd_keeps_tick (Spawned e cells fresh) w = refl
fwd_keeps_tick (Despawned e place cells link retired) w = row_keeps_tick w (row_of w e) _ (λ h r. refl)
fwd_keeps_tick (Shifted e place kind cell inward) w = row_keeps_tick w (row_of w e) _ (λ h r. refl)
fwd_keeps_tick (CellSet e kind before after) w = row_keeps_tick w (row_of w e) _ (λ h r. refl)
fwd_keeps_tick (Linked e before after) w = refl
fwd_keeps_tick (ResourceSet name before after) w = refl

back_keeps_tick : (d : Delta) (w : World) → (back d w).tick ≡ w.tick
back_keeps_tick (Spawned e cells fresh) w = row_keeps_tick w (row_of w e) _ (λ h r. refl)
back_keeps_tick (Despawned e place cells link retired) w = refl
back_keeps_tick (Shifted e place kind cell inward) w = row_keeps_tick w (row_of w e) _ (λ h r. refl)
back_keeps_tick (CellSet e kind before after) w = row_keeps_tick w (row_of w e) _ (λ h r. refl)
back_keeps_tick (Linked e before after) w = refl
back_keeps_tick (ResourceSet name before after) w = refl

pub fwd_all_keeps_tick : (ds : List Delta) (w : World) → (fwd_all ds w).tick ≡ w.tick
fwd_all_keeps_tick [] w = refl
fwd_all_keeps_tick (d ∷ ds) w = fwd_all_keeps_tick ds (fwd d w) ∙ fwd_keeps_tick d w

pub back_all_keeps_tick : (ds : List Delta) (w : World) → (back_all ds w).tick ≡ w.tick
back_all_keeps_tick [] w = refl
back_all_keeps_tick (d ∷ ds) w = back_keeps_tick d (back_all ds w) ∙ back_all_keeps_tick ds w
