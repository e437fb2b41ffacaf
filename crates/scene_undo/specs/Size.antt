-- The size of a frame of systems, and records that have no more deltas.
use Rattle.std.specs.Prelude.{ℕ, ◌+◌, ◌≤◌, List, [], ◌∷◌, length, sum, slice_get, IfSome, Ok, Err}
use Rattle.scene_kinds.specs.declared.entity.Entity.{Entity}
use Rattle.scene_kinds.specs.Answers.{Outcome}
use Rattle.scene_model.specs.World.{World}
use Rattle.scene_model.specs.Perform.{Command}
use Rattle.scene_world.specs.Stage.{Staged, Note, act}
use Rattle.scene_deltas.specs.CommandLaws.{along}
use Rattle.scene_journal.specs.Records.{Record, raised}
use Rattle.scene_schedule.specs.Schedule.{ScheduleState}
use Rattle.scene_schedule.specs.Systems.{advance_of}

-- what was noted on the way to an accepted end; nothing where it was refused
abbrev pub notes_of : {N : Type 0} → Outcome (List Entity) (Staged N) → List N
notes_of (Ok p) = p.1.notes
notes_of (Err r) = []

-- what the commands of an advance note on a world
abbrev pub noted_in : {N : Type 0} → Note N → ScheduleState → World → List N
noted_in note schedule w = notes_of (advance_of (act note) (λ t. t.world) schedule (record { world = raised w; notes = [] }))

-- each command notes itself
abbrev pub itself : Note Command
itself w c = c ∷ []

-- the size of an advance: its commands, of which each cell that a system writes is one, and the descendants that its
-- recursive despawns despawn
abbrev pub advance_size : ScheduleState → World → ℕ
advance_size schedule w = length (noted_in itself schedule w) + sum (noted_in along schedule w)

-- the newest record of a past has no more deltas than this size
abbrev pub IsNewestWithin : ℕ → List Record → Type 0
IsNewestWithin size past = IfSome (slice_get past 0) (λ r. length r.deltas ≤ size)
