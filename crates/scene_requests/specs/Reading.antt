-- What a reading of a request answers.
use Rattle.std.specs.Prelude.{◌≡◌, ⊤, Result, Ok, Err}
use Rattle.scene_json_forms.specs.declared.fault.FileFault.{FileFault}
use Rattle.scene_json_forms.specs.declared.fault.FileFault.TheVariants as file
use Rattle.scene_requests.specs.BadRequest.{bad_of}
use Rattle.scene_requests.specs.declared.bad_request.BadRequest.{BadRequest}
use Rattle.scene_requests.specs.declared.bad_request.RequestError.{RequestError}
use Rattle.scene_requests.specs.declared.bad_request.RequestError.TheVariants.{Bad, NoMemory}

-- a body that reads answers what was said, or that memory ran out, which may stand in place of any answer
abbrev pub Reads : {A : Type 0} → Result A RequestError → Result A BadRequest → Type 0
Reads (Ok a) said = said ≡ Ok a
Reads (Err NoMemory) said = ⊤
Reads (Err (Bad reason)) said = said ≡ Err reason

-- what a fault of a walk makes of the reading
abbrev pub error_by : FileFault → RequestError
error_by file.NoMemory = NoMemory
error_by fault = Bad (bad_of fault)
