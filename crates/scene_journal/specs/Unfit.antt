-- The first delta of a record that doesn't fit, as a function.
use Rattle.std.specs.Prelude.{ℕ, suc, ◌+◌, Bool, ◌&&◌, List, [], ◌∷◌, Option, Some, None, if◌then◌else◌, is_none, length, nat_eq, nat_lt, option_map}
use Rattle.std.specs.Option.{option_or}
use Rattle.scene_model.specs.World.{World}
use Rattle.scene_model.specs.Can.{can_set_tick}
use Rattle.scene_model.specs.Commands.{highest_tick}
use Rattle.scene_deltas.specs.declared.delta.Delta.{Delta}
use Rattle.scene_deltas.specs.Deltas.{fits_on, fits_back, fwd, back_all}
use Rattle.scene_journal.specs.Records.{Record, raised}

-- nothing where a test passes, else this number
abbrev pub unless : Bool → ℕ → Option ℕ
unless passes number = if passes then None else Some number

-- of deltas made one after another, the number of the first that doesn't fit at its turn
abbrev pub first_unfit : List Delta → World → Option ℕ
first_unfit [] w = None
first_unfit (d ∷ ds) w = option_or (unless (fits_on d w) 0) (option_map (λ k. suc k) (first_unfit ds (fwd d w)))

-- of deltas taken back from the last on, the number of the first that doesn't fit back at its turn
abbrev pub last_unfit : List Delta → World → Option ℕ
last_unfit [] w = None
last_unfit (d ∷ ds) w = option_or (option_map (λ k. suc k) (last_unfit ds w)) (unless (fits_back d (back_all ds w)) 0)

-- the world's tick is the one before the record, and can be raised
abbrev pub can_raise_for : Record → World → Bool
can_raise_for r w = nat_eq w.tick r.tick_before && nat_lt w.tick highest_tick

-- the first fault of a record that is redone: the tick, by the number of deltas, and then the first delta that doesn't
-- fit
abbrev pub first_unfit_on : Record → World → Option ℕ
first_unfit_on r w = option_or (unless (can_raise_for r w) (length r.deltas)) (first_unfit r.deltas (raised w))

-- the first fault of a record that is undone: the tick, by the number of deltas, then the last delta that doesn't fit
-- back, and then, by the number of deltas, a cell that was changed later than the tick before the record
abbrev pub first_unfit_back : Record → World → Option ℕ
first_unfit_back r w =
    option_or (unless (nat_eq w.tick (r.tick_before + 1)) (length r.deltas))
    (option_or (last_unfit r.deltas w) (unless (can_set_tick (back_all r.deltas w) r.tick_before) (length r.deltas)))

-- a record may be redone
abbrev pub record_fits_on : Record → World → Bool
record_fits_on r w = is_none (first_unfit_on r w)

-- a record may be undone
abbrev pub record_fits_back : Record → World → Bool
record_fits_back r w = is_none (first_unfit_back r w)
