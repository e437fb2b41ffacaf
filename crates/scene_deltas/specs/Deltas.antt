-- What each delta does to a world, and what taking it back does; and on which worlds it fits. The same of lists of
-- deltas.
use Rattle.std.specs.Prelude.{◌≡◌, Bool, true, List}
use Rattle.scene_model.specs.World.{World}
use Rattle.scene_model.specs.Raw.{put_row, drop_last, cut_row, uncut_row, shift_row, unshift_row, set_cell, set_link, set_resource}
use Rattle.scene_model.specs.Can.{can_put, can_drop, can_cut, can_uncut, can_shift, can_unshift, can_set_cell, can_set_link, can_set_resource}
use Rattle.scene_model.specs.RawLists.{MayAll, MayUndoAll, after_all, before_all}
use Rattle.scene_deltas.specs.declared.delta.Delta.{Delta}
use Rattle.scene_deltas.specs.declared.delta.Delta.TheVariants.{Spawned, Despawned, Shifted, CellSet, Linked, ResourceSet}

-- the world after a delta
abbrev pub fwd : Delta → World → World
fwd (Spawned e cells fresh) w = put_row w e cells
fwd (Despawned e place cells link retired) w = cut_row w e
fwd (Shifted e place kind cell inward) w = shift_row w e kind cell inward
fwd (CellSet e kind before after) w = set_cell w e kind after
fwd (Linked e before after) w = set_link w e after
fwd (ResourceSet name before after) w = set_resource w name after

-- the world before a delta
abbrev pub back : Delta → World → World
back (Spawned e cells fresh) w = drop_last w e fresh
back (Despawned e place cells link retired) w = uncut_row w e place cells link retired
back (Shifted e place kind cell inward) w = unshift_row w e place kind cell inward
back (CellSet e kind before after) w = set_cell w e kind before
back (Linked e before after) w = set_link w e before
back (ResourceSet name before after) w = set_resource w name before

-- where a delta may be made: the world has what the delta takes away, and may get what it brings
abbrev pub fits_on : Delta → World → Bool
fits_on (Spawned e cells fresh) w = can_put w e cells fresh
fits_on (Despawned e place cells link retired) w = can_cut w e place cells link retired
fits_on (Shifted e place kind cell inward) w = can_shift w e place kind cell inward
fits_on (CellSet e kind before after) w = can_set_cell w e kind before after
fits_on (Linked e before after) w = can_set_link w e before after
fits_on (ResourceSet name before after) w = can_set_resource w name before after

-- where a delta may be taken back
abbrev pub fits_back : Delta → World → Bool
fits_back (Spawned e cells fresh) w = can_drop w e cells fresh
fits_back (Despawned e place cells link retired) w = can_uncut w e place cells link retired
fits_back (Shifted e place kind cell inward) w = can_unshift w e place kind cell inward
fits_back (CellSet e kind before after) w = can_set_cell w e kind after before
fits_back (Linked e before after) w = can_set_link w e after before
fits_back (ResourceSet name before after) w = can_set_resource w name after before

-- the same as facts
abbrev pub FitsOn : Delta → World → Type 0
FitsOn d w = fits_on d w ≡ true

-- that it can be taken back in a world
abbrev pub FitsBack : Delta → World → Type 0
FitsBack d w = fits_back d w ≡ true

-- deltas one after another
abbrev pub fwd_all : List Delta → World → World
fwd_all ds w = after_all fwd ds w

-- each delta fits at its turn
abbrev pub AllFitOn : List Delta → World → Type 0
AllFitOn ds w = MayAll FitsOn fwd ds w

-- deltas taken back, the last first
abbrev pub back_all : List Delta → World → World
back_all ds w = before_all back ds w

-- each fits back at its turn
abbrev pub AllFitBack : List Delta → World → Type 0
AllFitBack ds w = MayUndoAll FitsBack back ds w
