-- Faults of scene texts.
use Rattle.std.proofs.Common.{◌≡◌, ◌≢◌, Result, Err, refl}
use Rattle.scene_json_forms.specs.declared.fault.FileFault.{FileFault}
use Rattle.scene_json_forms.specs.declared.fault.FileFault.TheVariants.{NoMemory}
use Rattle.scene_json_forms.specs.Outcome.{IsFault}

-- a fault other than want of memory is the one that is wanted
pub is_wanted : {A : Type 0} (fault : FileFault) (expected : Result A FileFault) → fault ≢ NoMemory → IsFault fault expected → expected ≡ Err fault
is_wanted NoMemory expected other h = absurd (other refl)
is_wanted fault expected other h = h
