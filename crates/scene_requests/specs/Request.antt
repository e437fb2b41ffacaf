-- What a request asks for, by its bytes, or why it is bad (docs/SHELL.md, "Requests").
use Rattle.std.specs.Prelude.{ℕ, ◌==◌, List, [], ◌∷◌, Bool, false, Option, Some, None, Result, Ok, Err, length, nat_le, if◌then◌else◌}
use Rattle.std.specs.Str.{is_utf8}
use Rattle.serde_json.specs.Data.{Data}
use Rattle.serde_json.specs.Read.{read}
use Rattle.scene_kinds.specs.Schema.{Kinds}
use Rattle.scene_json_forms.specs.declared.fault.FileFault.{FileFault}
use Rattle.scene_requests.specs.declared.bad_request.BadRequest.{BadRequest}
use Rattle.scene_requests.specs.declared.bad_request.BadRequest.TheVariants.{NotJson, TooLong}
use Rattle.scene_requests.specs.declared.request.Request.{Request}
use Rattle.scene_requests.specs.BadRequest.{bad_of}
use Rattle.scene_requests.specs.Questions.{request_at}

-- a line is a request where it begins with { (123)
abbrev pub is_request : List ℕ → Bool
is_request [] = false
is_request (b ∷ bs) = b == 123

-- what a walk says, or what its first fault makes of the request
abbrev pub if_walked : Result Request FileFault → Result Request BadRequest
if_walked (Ok request) = Ok request
if_walked (Err fault) = Err (bad_of fault)

-- what a JSON value says, where there is one
abbrev pub if_json : Kinds → Option Data → Result Request BadRequest
if_json kinds None = Err NotJson
if_json kinds (Some d) = if_walked (request_at kinds [] d)

-- what a text says; bytes that aren't UTF-8 are no JSON
abbrev pub said_by : Kinds → List ℕ → Result Request BadRequest
said_by kinds bytes = if is_utf8 bytes then if_json kinds (read bytes) else Err NotJson

-- what a request asks for; it has at most as many bytes as a scene text
abbrev pub request_in : Kinds → List ℕ → Result Request BadRequest
request_in kinds bytes = if nat_le (length bytes) 67108864 then said_by kinds bytes else Err TooLong
