-- Several calls one after another, all or none: several undos, and several redos.
use Rattle.std.specs.Prelude.{ℕ, zero, suc, Ok}
use Rattle.scene_kinds.specs.Answers.{Outcome}
use Rattle.scene_model.specs.Commands.{and_then}
use Rattle.scene_machine.specs.Machine.{Machine, redo, undo}

-- so many calls, one after another: the first refusal is that of them all
abbrev pub several : {W : Type 0} → (W → Outcome (Unit {0}) W) → ℕ → W → Outcome (Unit {0}) W
several call zero w = Ok (tt, w)
several call (suc n) w = and_then (call w) (λ a. several call n)

-- so many undos
abbrev pub undo_by : {W : Type 0} → ℕ → Machine W → Outcome (Unit {0}) (Machine W)
undo_by = several undo

-- so many redos
abbrev pub redo_by : {W : Type 0} → ℕ → Machine W → Outcome (Unit {0}) (Machine W)
redo_by = several redo
