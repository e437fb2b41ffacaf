-- The machine of saved worlds, whatever a world and a frame are: the meaning of undo and redo.
use Rattle.std.specs.Prelude.{ℕ, ◌+◌, List, [], ◌∷◌, take, Ok, Err, nat_eq, if◌then◌else◌}
use Rattle.scene_kinds.specs.declared.fault.Fault.TheVariants.{NothingToUndo, NothingToRedo, TickFull}
use Rattle.scene_kinds.specs.Answers.{Outcome, refuse}

-- the worlds before each frame, the newest first; the world now; the worlds that were undone, the next one first; how
-- many undos there were; and the depth: how many worlds its past keeps
pub record Machine (W : Type 0) : Type 0 where
  pub past : List W
  pub now : W
  pub future : List W
  pub rewinds : ℕ
  pub depth : ℕ

-- the greatest depth
abbrev pub most_frames : ℕ
most_frames = 1048576

-- the machine of a depth before the first call
abbrev pub opening_with : {W : Type 0} → W → ℕ → Machine W
opening_with w depth = record { past = []; now = w; future = []; rewinds = 0; depth = depth }

-- the machine of the greatest depth before the first call
abbrev pub opening : {W : Type 0} → W → Machine W
opening w = opening_with w most_frames

-- the past behind a further world: of more worlds than the depth the newest are kept
abbrev pub past_with : {W : Type 0} → Machine W → List W
past_with m = take m.depth (m.now ∷ m.past)

-- an accepted frame: the world before it is kept, and what was undone is forgotten
abbrev pub accepted : {W : Type 0} → Machine W → W → Machine W
accepted m w = record m { past = past_with m; now = w; future = [] }

-- a frame, by what it does to the world now; a refused one leaves the machine
abbrev pub submitted : {A W : Type 0} → Machine W → Outcome A W → Outcome A (Machine W)
submitted m (Ok p) = Ok (p.0, accepted m p.1)
submitted m (Err r) = Err r

-- an undo, by the past worlds, the newest first
abbrev pub undone_to : {W : Type 0} → Machine W → List W → Outcome (Unit {0}) (Machine W)
undone_to m [] = refuse NothingToUndo
undone_to m (w ∷ ws) =
    if nat_eq m.rewinds 18446744073709551615 then refuse TickFull
    else Ok (tt, record m { past = ws; now = w; future = m.now ∷ m.future; rewinds = m.rewinds + 1 })

-- the newest frame is taken back
abbrev pub undo : {W : Type 0} → Machine W → Outcome (Unit {0}) (Machine W)
undo m = undone_to m m.past

-- a redo, by the worlds that were undone, the next one first
abbrev pub redone_to : {W : Type 0} → Machine W → List W → Outcome (Unit {0}) (Machine W)
redone_to m [] = refuse NothingToRedo
redone_to m (w ∷ ws) = Ok (tt, record m { past = past_with m; now = w; future = ws })

-- the newest undone frame is done again
abbrev pub redo : {W : Type 0} → Machine W → Outcome (Unit {0}) (Machine W)
redo m = redone_to m m.future
