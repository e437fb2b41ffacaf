-- The deltas of a frame as contracts see them.
use Rattle.std.specs.Prelude.{ℕ, ◌-◌, List, [], ◌∷◌, length, vec_capacity}
use Rattle.scene_deltas.specs.declared.delta.Delta.{Delta}
use Rattle.scene_deltas.specs.declared.delta_list.Held.{Held}
use Rattle.scene_deltas.specs.declared.delta_list.Held.TheVariants.{Empty, Lone, Many}
use Rattle.scene_deltas.specs.declared.segment.Segment.{Segment}

-- deltas in order, and for how many more segments there is room
pub record DeltaList : Type 0 where
  pub items : List Delta
  pub room : ℕ

-- the segments that are held
abbrev pub held_segments : Held → List Segment
held_segments Empty = []
held_segments (Lone s) = s ∷ []
held_segments (Many ss) = ss.items

-- for how many more there is room: for one where there is none
abbrev pub held_room : Held → ℕ
held_room Empty = 1
held_room (Lone s) = 0
held_room (Many ss) = vec_capacity ss - length ss.items
