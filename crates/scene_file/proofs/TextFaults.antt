-- What a text says once it is read as JSON, and once its parts are there.
use Rattle.std.proofs.Common.{◌≡◌, ◌≢◌, ℕ, Bool, true, false, List, Option, Some, None, Result, Ok, Err, refl, sym, ap, ◌∙◌}
use Rattle.std.specs.Str.{IsUtf8, is_utf8}
use Rattle.std.proofs.lemmas.Str.{IsUtf8-from_is_utf8, is_utf8-from_IsUtf8}
use Rattle.std.specs.Prelude.{if◌then◌else◌}
use Rattle.serde_json.specs.Data.{Data}
use Rattle.serde_json.specs.Read.{read}
use Rattle.scene_kinds.specs.Answers.{refusal_of}
use Rattle.scene_kinds.specs.declared.fault.Fault.TheVariants as fault
use Rattle.scene_kinds.specs.declared.refusal.Refusal.{Refusal}
use Rattle.scene_model.specs.World.{World}
use Rattle.scene_validate.specs.Parts.{Parts, world_of}
use Rattle.scene_validate.specs.Rules.{first_broken}
use Rattle.scene_world.specs.Built.{unless_broken, made}
use Rattle.scene_json_forms.specs.declared.fault.FileFault.{FileFault}
use Rattle.scene_json_forms.specs.declared.fault.FileFault.TheVariants as file
use Rattle.scene_json_forms.specs.Outcome.{IsFault, IsTextFault}
use Rattle.scene_file.specs.Scene.{if_json, if_unbroken, json_in}

pub json_read : (text : List ℕ) (d : Data) → IsUtf8 text → read text ≡ Some d → json_in text ≡ Ok d
json_read text d u h = ap (λ b. if b then if_json (read text) else Err file.NotJson) (is_utf8-from_IsUtf8 text u) ∙ ap if_json h

no_json_by : (text : List ℕ) (b : Bool) → is_utf8 text ≡ b → (IsUtf8 text → read text ≡ None)
    → (if b then if_json (read text) else Err file.NotJson) ≡ Err file.NotJson
no_json_by text true e h = ap if_json (h (IsUtf8-from_is_utf8 text e))
no_json_by text false e h = refl

pub no_json : (text : List ℕ) → (IsUtf8 text → read text ≡ None) → json_in text ≡ Err file.NotJson
no_json text h = no_json_by text (is_utf8 text) refl h

made_of : (o : Option ℕ) (p : Parts) (w : World) → unless_broken o (world_of p) ≡ Ok w → if_unbroken o p ≡ Ok w
made_of None p w h = let e : world_of p ≡ w = cc h in ap Ok e
made_of (Some rule) p w h = absurd (cc h)

pub world_made : (p : Parts) (w : World) → made p ≡ Ok w → if_unbroken (first_broken p) p ≡ Ok w
world_made p w h = made_of (first_broken p) p w h

broken_of : (o : Option ℕ) (p : Parts) (r : Refusal) (rule : ℕ) → unless_broken o (world_of p) ≡ Err r → r.fault ≡ fault.BadWorld rule
    → if_unbroken o p ≡ Err (file.BadWorld rule)
broken_of None p r rule h e = absurd (cc h)
broken_of (Some other) p r rule h e =
    let same : refusal_of (fault.BadWorld other) ≡ r = cc h in
    let k : fault.BadWorld other ≡ fault.BadWorld rule = ap (λ (x : Refusal). x.fault) same ∙ e in
    let n : other ≡ rule = cc k in
    ap (λ m. Err (file.BadWorld m)) n

pub world_broken : (p : Parts) (r : Refusal) (rule : ℕ) → (r ≢ refusal_of fault.NoMemory → made p ≡ Err r) → r.fault ≡ fault.BadWorld rule
    → if_unbroken (first_broken p) p ≡ Err (file.BadWorld rule)
world_broken p r rule h e =
    broken_of (first_broken p) p r rule
    (h (λ k. let b : fault.NoMemory ≡ fault.BadWorld rule = sym (ap (λ (x : Refusal). x.fault) k) ∙ e in absurd (cc b))) e

-- a fault of a text is a fault, and of no stream
pub text_fault : {A : Type 0} (f : FileFault) (x : Result A FileFault) → IsTextFault f x → IsFault f x
text_fault file.NoMemory x h = tt
text_fault (file.BadWorld rule) x h = h
text_fault (file.BadRecord frame delta) x h = h
text_fault file.NotJson x h = h
text_fault (file.UnknownKey path) x h = h
text_fault (file.BadField path) x h = h
text_fault (file.BadVersion version) x h = h
text_fault file.ReadFault x h = absurd h
text_fault file.WriteFault x h = absurd h
text_fault file.TooLong x h = absurd h

pub no_stream : {A : Type 0} (f : FileFault) (x : Result A FileFault) → IsTextFault f x → (f ≢ file.ReadFault) × (f ≢ file.WriteFault)
    × (f ≢ file.TooLong)
no_stream file.NoMemory x h = (λ e. absurd (cc e), λ e. absurd (cc e), λ e. absurd (cc e))
no_stream (file.BadWorld rule) x h = (λ e. absurd (cc e), λ e. absurd (cc e), λ e. absurd (cc e))
no_stream (file.BadRecord frame delta) x h = (λ e. absurd (cc e), λ e. absurd (cc e), λ e. absurd (cc e))
no_stream file.NotJson x h = (λ e. absurd (cc e), λ e. absurd (cc e), λ e. absurd (cc e))
no_stream (file.UnknownKey path) x h = (λ e. absurd (cc e), λ e. absurd (cc e), λ e. absurd (cc e))
no_stream (file.BadField path) x h = (λ e. absurd (cc e), λ e. absurd (cc e), λ e. absurd (cc e))
no_stream (file.BadVersion version) x h = (λ e. absurd (cc e), λ e. absurd (cc e), λ e. absurd (cc e))
no_stream file.ReadFault x h = absurd h
no_stream file.WriteFault x h = absurd h
no_stream file.TooLong x h = absurd h

pub ruleset loading = (json_read, no_json, world_made, world_broken, text_fault, no_stream)
