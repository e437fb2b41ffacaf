-- What a text and its walk make of a request.
use Rattle.std.proofs.Common.{◌≡◌, ℕ, Bool, true, false, List, [], None, Some, Result, Ok, Err, length, refl, ap, subst, sym, ◌∙◌}
use Rattle.std.specs.Prelude.{if◌then◌else◌, nat_le}
use Rattle.std.specs.Str.{IsUtf8, is_utf8}
use Rattle.std.proofs.lemmas.Str.{IsUtf8-from_is_utf8, is_utf8-from_IsUtf8}
use Rattle.serde_json.specs.Data.{Data}
use Rattle.serde_json.specs.Read.{read}
use Rattle.scene_kinds.specs.Schema.{Kinds}
use Rattle.scene_json_forms.specs.declared.fault.FileFault.{FileFault}
use Rattle.scene_json_forms.specs.declared.fault.FileFault.TheVariants as file
use Rattle.scene_json_forms.specs.Outcome.{IsTextFault}
use Rattle.scene_requests.specs.declared.bad_request.BadRequest.TheVariants.{NotJson, TooLong}
use Rattle.scene_requests.specs.declared.bad_request.RequestError.{RequestError}
use Rattle.scene_requests.specs.Reading.{Reads, error_by}
use Rattle.scene_requests.specs.Request.{if_json, if_walked, request_in, said_by}
use Rattle.scene_requests.specs.Questions.{request_at}
use Rattle.scene_requests.specs.declared.request.Request.{Request}

-- a request
pub walk_ends : (walked : Result Request FileFault) (request : Request) → walked ≡ Ok request → if_walked walked ≡ Ok request
walk_ends walked request is = ap if_walked is

failed : (fault : FileFault) (walked : Result Request FileFault) → IsTextFault fault walked → Reads {A = Request} (Err (error_by fault)) (if_walked walked)
failed file.NoMemory walked is = tt
failed (file.BadWorld rule) walked is = ap if_walked is
failed (file.BadRecord frame delta) walked is = ap if_walked is
failed file.NotJson walked is = ap if_walked is
failed (file.UnknownKey path) walked is = ap if_walked is
failed (file.BadField path) walked is = ap if_walked is
failed (file.BadVersion version) walked is = ap if_walked is
failed file.ReadFault walked is = absurd is
failed file.WriteFault walked is = absurd is
failed file.TooLong walked is = absurd is

-- a fault
pub walk_fails : (fault : FileFault) (error : RequestError) (walked : Result Request FileFault) → error ≡ error_by fault → IsTextFault fault walked
    → Reads {A = Request} (Err error) (if_walked walked)
walk_fails fault error walked is fails = subst (λ e. Reads {A = Request} (Err e) (if_walked walked)) (sym is) (failed fault walked fails)

-- ---- texts

-- a text that is JSON
pub json_said : (kinds : Kinds) (text : List ℕ) (d : Data) → IsUtf8 text → read text ≡ Some d → said_by kinds text ≡ if_walked (request_at kinds [] d)
json_said kinds text d u h = ap (λ b. if b then if_json kinds (read text) else Err NotJson) (is_utf8-from_IsUtf8 text u) ∙ ap (if_json kinds) h

no_json_by : (kinds : Kinds) (text : List ℕ) (b : Bool) → is_utf8 text ≡ b → (IsUtf8 text → read text ≡ None)
    → (if b then if_json kinds (read text) else Err NotJson) ≡ Err NotJson
no_json_by kinds text true e h = ap (if_json kinds) (h (IsUtf8-from_is_utf8 text e))
no_json_by kinds text false e h = refl

-- and one that isn't
pub no_json_said : (kinds : Kinds) (text : List ℕ) → (IsUtf8 text → read text ≡ None) → said_by kinds text ≡ Err NotJson
no_json_said kinds text h = no_json_by kinds text (is_utf8 text) refl h

-- one that isn't too long
pub short_said : (kinds : Kinds) (text : List ℕ) → nat_le (length text) 67108864 ≡ true → request_in kinds text ≡ said_by kinds text
short_said kinds text h = ap (λ b. if b then said_by kinds text else Err TooLong) h

-- and one that is
pub long_said : (kinds : Kinds) (text : List ℕ) → nat_le (length text) 67108864 ≡ false → request_in kinds text ≡ Err TooLong
long_said kinds text h = ap (λ b. if b then said_by kinds text else Err TooLong) h

pub ruleset requests = (json_said, no_json_said, short_said, long_said)
