-- Cursors of a machine, and which of them can still be asked from.
use Rattle.std.specs.Prelude.{ℕ, Result, Ok, Err, nat_eq, if◌then◌else◌}
use Rattle.scene_kinds.specs.declared.fault.Fault.TheVariants.{Rewound}
use Rattle.scene_kinds.specs.declared.refusal.Refusal.{Refusal}
use Rattle.scene_kinds.specs.Answers.{refusal_of}
use Rattle.scene_model.specs.World.{World}
use Rattle.scene_machine.specs.Machine.{Machine}
use Rattle.scene_undo.specs.declared.cursor.Cursor.{Cursor}

-- the cursor of now
abbrev pub cursor_of : Machine World → Cursor
cursor_of m = record { rewinds = m.rewinds; tick = m.now.tick }

-- the tick after which cells are listed; after an undo since the cursor, a refusal with the count of rewinds now
abbrev pub since : Cursor → Machine World → Result ℕ Refusal
since c m = if nat_eq c.rewinds m.rewinds then Ok c.tick else Err (refusal_of (Rewound m.rewinds))
