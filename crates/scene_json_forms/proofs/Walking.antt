-- What a walk says after one of its steps.
use Rattle.std.proofs.Common.{◌≡◌, ℕ, true, false, is_some, List, Option, Some, None, option_map, Result, Ok, Err, IfOk, refl, sym, ap, ◌∙◌}
use Rattle.std.specs.Result.{IsErrAnd}
use Rattle.serde_json.specs.Data.{Data, Items, null, boolean, number, string, array, object}
use Rattle.scene_json_forms.specs.declared.fault.FileFault.{FileFault}
use Rattle.scene_json_forms.specs.declared.fault.FileFault.TheVariants as file
use Rattle.scene_json_forms.specs.Outcome.{IsTextFault, Means, ReadsAs}
use Rattle.serde_json.specs.Find.{get, get_member, as_array, as_object}
use Rattle.scene_json_forms.specs.Members.{members_in}
use Rattle.scene_json_forms.specs.Reading.{◌>>=◌, elements, field, list_at}

-- a fault that is meant
pub fault_means : {A : Type 0} (e f : FileFault) (x : Result A FileFault) → Means e f → x ≡ Err f → IsTextFault e x
fault_means file.NoMemory f x m h = tt
fault_means (file.BadWorld rule) f x m h = h ∙ ap Err m
fault_means (file.BadRecord frame delta) f x m h = h ∙ ap Err m
fault_means file.NotJson f x m h = h ∙ ap Err m
fault_means (file.UnknownKey path) f x m h = h ∙ ap Err m
fault_means (file.BadField path) f x m h = h ∙ ap Err m
fault_means (file.BadVersion version) f x m h = h ∙ ap Err m
fault_means file.ReadFault f x m h = m
fault_means file.WriteFault f x m h = m
fault_means file.TooLong f x m h = m

after : {A B : Type 0} (e : FileFault) (x : Result A FileFault) (next : A → Result B FileFault) → x ≡ Err e → x >>= next ≡ Err e
after e x next h = rw h refl

-- a fault ends the walk
pub fault_stays : {A B : Type 0} (e : FileFault) (x : Result A FileFault) (next : A → Result B FileFault) → IsTextFault e x
    → IsTextFault e (x >>= next)
fault_stays file.NoMemory x next h = tt
fault_stays (file.BadWorld rule) x next h = after _ x next h
fault_stays (file.BadRecord frame delta) x next h = after _ x next h
fault_stays file.NotJson x next h = after _ x next h
fault_stays (file.UnknownKey path) x next h = after _ x next h
fault_stays (file.BadField path) x next h = after _ x next h
fault_stays (file.BadVersion version) x next h = after _ x next h
fault_stays file.ReadFault x next h = h
fault_stays file.WriteFault x next h = h
fault_stays file.TooLong x next h = h

-- a call that hands on a fault answers what has that fault
pub handed_on : {X A : Type 0} (seen : X → A) (r : Result X FileFault) (x : Result A FileFault) (P : FileFault → Type 0) → IsErrAnd r P
    → ((f : FileFault) → P f → IsTextFault f x) → ReadsAs seen r x
handed_on seen (Ok item) x P h k = absurd h
handed_on seen (Err f) x P h k = k f h

-- what was read is what was expected
pub read_is : {X A : Type 0} (seen : X → A) (r : Result X FileFault) (x : Result A FileFault) → ReadsAs seen r x → IfOk r (λ item. x ≡ Ok (seen item))
read_is seen (Ok item) x h = h
read_is seen (Err e) x h = tt

-- ---- lists and objects that are opened

found_list : (path : List ℕ) (o : Option Items) (vs : List Data) → ◌≡◌ {A = Option (List Data)} (Some vs) (option_map elements o)
    → (field path o >>= λ ds. Ok (elements ds)) ≡ Ok vs
found_list path None vs e = absurd (cc e)
found_list path (Some ds) vs e = let same : vs ≡ elements ds = cc e in ap Ok (sym same)

-- the elements of a list
pub list_found : (path : List ℕ) (d : Data) (vs : List Data) → ◌≡◌ {A = Option (List Data)} (Some vs) (option_map elements (as_array d))
    → list_at path d ≡ Ok vs
list_found path d vs e = found_list path (as_array d) vs e

lost_list : (path : List ℕ) (o : Option Items) → ◌≡◌ {A = Option (List Data)} None (option_map elements o)
    → (field path o >>= λ ds. Ok (elements ds)) ≡ Err (file.BadField path)
lost_list path None e = refl
lost_list path (Some ds) e = absurd (cc e)

pub list_lost : (path : List ℕ) (d : Data) → ◌≡◌ {A = Option (List Data)} None (option_map elements (as_array d)) → list_at path d ≡ Err (file.BadField path)
list_lost path d e = lost_list path (as_array d) e

-- the members of an object
pub object_found : (d : Data) → true ≡ is_some (as_object d) → as_object d ≡ Some (members_in d)
object_found null e = absurd (cc e)
object_found (boolean b) e = absurd (cc e)
object_found (number n) e = absurd (cc e)
object_found (string s) e = absurd (cc e)
object_found (array ds) e = absurd (cc e)
object_found (object ms) e = refl

pub object_lost : (d : Data) → false ≡ is_some (as_object d) → as_object d ≡ None
object_lost null e = refl
object_lost (boolean b) e = refl
object_lost (number n) e = refl
object_lost (string s) e = refl
object_lost (array ds) e = refl
object_lost (object ms) e = absurd (cc e)

-- the value of a key
pub get-member : (key : List ℕ) (d : Data) → get key d ≡ get_member key (members_in d)
get-member key null = refl
get-member key (boolean b) = refl
get-member key (number n) = refl
get-member key (string s) = refl
get-member key (array ds) = refl
get-member key (object ms) = refl

pub ruleset walking = (fault_means, fault_stays, list_found, list_lost, object_found, object_lost, get-member)
