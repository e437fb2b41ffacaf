-- Which deltas the segments of a frame have, in order.
use Rattle.std.specs.Prelude.{◌≡◌, ℕ, ◌-◌, List, [], ◌∷◌, length, map, take}
use Rattle.std.specs.List.{flat_map}
use Rattle.scene_table.specs.Runs.{AreColumnsFor, AreLongFor, IsTurn, TurnState, cells_of_turn}
use Rattle.scene_table.specs.Tables.{rows_at}
use Rattle.scene_model.specs.Valid.{IsValid}
use Rattle.scene_model.specs.World.{World}
use Rattle.scene_deltas.specs.declared.delta.Delta.{Delta}
use Rattle.scene_deltas.specs.declared.delta.Delta.TheVariants.{CellSet}
use Rattle.scene_deltas.specs.declared.segment.Segment.{Segment}
use Rattle.scene_deltas.specs.declared.segment.Segment.TheVariants.{One, Written}
use Rattle.scene_deltas.specs.declared.segment.DeltaRef.{DeltaRef}
use Rattle.scene_deltas.specs.declared.segment.DeltaRef.TheVariants.{Kept, Made}

-- the deltas of a turn: row by row, and in a row by kind
abbrev pub turn_deltas : TurnState → List Delta
turn_deltas t = map (λ c. CellSet c.0 c.1 c.2 c.3) (cells_of_turn t)

-- the deltas of a segment
abbrev pub shown : Segment → List Delta
shown (One d) = d ∷ []
shown (Written t) = turn_deltas t

-- and of segments one behind another
abbrev pub flat : List Segment → List Delta
flat segments = flat_map shown segments

-- a delta that is lent
abbrev pub seen : DeltaRef → Delta
seen (Kept d) = d.now
seen (Made d) = d

-- deltas without so many at the end
abbrev pub front : ℕ → List Delta → List Delta
front gone ds = take (length ds - gone) ds

-- a turn of a run whose entities are those of the rows of its table, in a valid world
pub record IsOverTable (w : World) (t : TurnState) : Type 0 where
  pub valid : IsValid w
  pub is : IsTurn t
  pub are : AreColumnsFor t.run.steps t.run.columns
  pub long : AreLongFor t.run.entities t.run.columns
  pub entities : t.run.entities ≡ map (λ row. row.entity) (rows_at w.tables t.run.mask)
