-- What the given queries find of a machine.
use Rattle.std.specs.Prelude.{◌≡◌, ℕ, List, Result, Ok, Err, MatchResult}
use Rattle.std.specs.Global.{Vec}
use Rattle.scene_kinds.specs.declared.fault.Fault.TheVariants.{NoMemory}
use Rattle.scene_kinds.specs.declared.refusal.Refusal.{Refusal}
use Rattle.scene_kinds.specs.Answers.{refusal_of}
use Rattle.scene_model.specs.World.{World}
use Rattle.scene_machine.specs.Machine.{Machine}
use Rattle.scene_systems.specs.declared.filter.Filter.{Filter}
use Rattle.scene_pass.specs.declared.cell_name.CellName.{CellName}
use Rattle.scene_undo.specs.declared.cursor.Cursor.{Cursor}
use Rattle.scene_undo.specs.Cursor.{since}
use Rattle.scene_session.specs.State.{StateView, replayed}

-- the machine of a state: what its history makes of its opening
abbrev pub machine_at : StateView → Machine World
machine_at s = (replayed s.opening s.history).machine

-- the cells that are listed after a tick, or no memory was found; where a cursor gives no tick, its refusal
abbrev pub ListsAfter : (ℕ → List CellName) → Result ℕ Refusal → Result (Vec CellName) Refusal → Type 0
ListsAfter list (Ok tick) answer = MatchResult answer (λ names. names.items ≡ list tick) (λ r. r ≡ refusal_of NoMemory)
ListsAfter list (Err r) answer = answer ≡ Err r

-- the cells of matching rows that a list of cells after a tick has, from the tick of a cursor on
abbrev pub ListsSince : (World → Filter → ℕ → List CellName) → Cursor → Filter → Machine World → Result (Vec CellName) Refusal → Type 0
ListsSince list cursor filter m answer = ListsAfter (list m.now filter) (since cursor m) answer
