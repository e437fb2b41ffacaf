-- With which status the program ends.
use Rattle.std.specs.Prelude.{ℕ, Bool, if◌then◌else◌, ◌==◌}
use Rattle.scene.specs.declared.ending.Ending.{Ending}
use Rattle.scene.specs.declared.ending.Ending.TheVariants.{Done, Refused, BadCommandLine, Fault, Store, Told}

-- the exit status of an end
abbrev pub status_of : Ending → ℕ
status_of Done = 0
status_of Refused = 1
status_of BadCommandLine = 2
status_of (Fault fault) = 3
status_of (Store fault) = 3
status_of Told = 3

-- the end after so many bad lines
abbrev pub after_bad_lines : ℕ → Ending
after_bad_lines count = if count == 0 then Done else Refused

-- the end after a scene text was looked at
abbrev pub after_scene : Bool → Ending
after_scene accepted = if accepted then Done else Refused
