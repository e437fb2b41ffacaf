-- Records of frames: what redoing and undoing one does to a world, and on which worlds it fits.
use Rattle.std.specs.Prelude.{◌≡◌, ℕ, ◌+◌, ◌<◌, true, List}
use Rattle.scene_model.specs.World.{World}
use Rattle.scene_model.specs.Commands.{highest_tick}
use Rattle.scene_model.specs.Raw.{set_tick}
use Rattle.scene_model.specs.Can.{can_set_tick}
use Rattle.scene_deltas.specs.declared.delta.Delta.{Delta}
use Rattle.scene_deltas.specs.Deltas.{fwd_all, back_all, AllFitOn, AllFitBack}

-- the tick of the world before a frame, and what the frame did, in order
pub record Record : Type 0 where
  pub tick_before : ℕ
  pub deltas : List Delta

-- a record by its parts
abbrev pub record_of : ℕ → List Delta → Record
record_of tick deltas = record { tick_before = tick; deltas = deltas }

-- the world with its tick raised
abbrev pub raised : World → World
raised w = set_tick w (w.tick + 1)

-- a record is made again: the tick is raised, and then come the deltas
abbrev pub redone : Record → World → World
redone r w = fwd_all r.deltas (raised w)

-- the deltas are taken back, and then the tick is the one from before
abbrev pub undone : Record → World → World
undone r w = set_tick (back_all r.deltas w) r.tick_before

-- where a record may be redone: the tick is the one before the frame, it can be raised, and the deltas fit then
pub record RecordFitsOn (r : Record) (w : World) : Type 0 where
  pub tick : w.tick ≡ r.tick_before
  pub low : w.tick < highest_tick
  pub deltas : AllFitOn r.deltas (raised w)

-- where a record may be undone: the tick is the frame's, the deltas fit back, and no cell is left that was changed
-- later than the tick before the frame
pub record RecordFitsBack (r : Record) (w : World) : Type 0 where
  pub tick : w.tick ≡ r.tick_before + 1
  pub deltas : AllFitBack r.deltas w
  pub timely : can_set_tick (back_all r.deltas w) r.tick_before ≡ true
