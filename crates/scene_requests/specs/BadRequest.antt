-- Why a request is bad, by the fault of its walk.
use Rattle.scene_json_forms.specs.declared.fault.FileFault.{FileFault}
use Rattle.scene_json_forms.specs.declared.fault.FileFault.TheVariants as file
use Rattle.scene_requests.specs.declared.bad_request.BadRequest.{BadRequest}
use Rattle.scene_requests.specs.declared.bad_request.BadRequest.TheVariants.{NotJson, UnknownKey, BadField}

-- the first fault of a walk; no walk has others than these two
abbrev pub bad_of : FileFault → BadRequest
bad_of (file.UnknownKey path) = UnknownKey path
bad_of (file.BadField path) = BadField path
bad_of fault = NotJson
