-- The texts of a scene, and the fault of its systems, as the calls of C read them.
use Rattle.std.specs.Prelude.{◌≡◌, ℕ, List, Option, Some, None, Result, Ok, Err, if◌then◌else◌, nat_eq, reverse, string_bytes, String}
use Rattle.std.specs.declared.alloc.Global.{Global}
use Rattle.scene_kinds.specs.Answers.{refusal_of}
use Rattle.scene_kinds.specs.declared.fault.Fault.{Fault}
use Rattle.scene_json_forms.specs.declared.fault.FileFault.{FileFault}
use Rattle.scene_json_forms.specs.Outcome.{IsFault}
use Rattle.scene_file.specs.Saving.{save_of, save_editor_of}
use Rattle.scene_interpreter.specs.Interpreter.{interpreter_of, systems_of}
use Rattle.scene_schedule.specs.Schedule.{schedule_fault}
use Rattle.scene_session.specs.Whole.{Whole}
use Rattle.scene_c.specs.Arguments.{shown_refusal}
use Rattle.scene_c.specs.Reads.{Lists, kinds_now}
use Rattle.scene_c.specs.declared.open_scene.OpenScene.{OpenScene}
use Rattle.scene_c.specs.declared.value.SceneRefusal.{SceneRefusal}

-- ---- texts

-- a scene text by its version: that of the world alone, or with all that can be undone and redone; or that it is too long
abbrev pub saved_by : ℕ → Whole → Option (Result (List ℕ) FileFault)
saved_by version w = if nat_eq version 1 then Some (save_of w.machine.now)
    else if nat_eq version 2 then Some (save_editor_of w.machine.now (reverse w.past) w.future)
    else None

-- what a save has come to is what was expected, or no memory was found for it
abbrev pub IsSavedAs : Result (String Global) FileFault → Result (List ℕ) FileFault → Type 0
IsSavedAs (Ok text) expected = expected ≡ Ok (string_bytes text)
IsSavedAs (Err fault) expected = IsFault fault expected

-- it is told from a byte on; too long a text is refused, and of another version there is none
abbrev pub TellsSaved : Option (Result (List ℕ) FileFault) → ℕ → (old new : List ℕ) → (old_total total : ℕ) → ℕ → Type 0
TellsSaved None from old new old_total total code = (code ≡ 4) × ((new ≡ old) × (total ≡ old_total))
TellsSaved (Some (Err fault)) from old new old_total total code = (code ≡ 3) × ((new ≡ old) × (total ≡ old_total))
TellsSaved (Some (Ok text)) from old new old_total total code = Lists text from old new total code

-- ---- systems

-- the fault of the systems, if they have one
abbrev pub fault_now : OpenScene → Option Fault
fault_now d = schedule_fault (kinds_now d) (systems_of (interpreter_of d.interpreter))

-- it is told, or there is none
abbrev pub TellsFault : Option Fault → (old new : SceneRefusal) → ℕ → Type 0
TellsFault None old new code = (code ≡ 0) × (new ≡ old)
TellsFault (Some fault) old new code = (code ≡ 3) × (new ≡ shown_refusal (refusal_of fault))
